use Rattle.p8_cog.specs.Keeping.{read-stops}
use Rattle.p8_cog.proofs.progress.Progress.next_read.Goals as goal

pub returns-clause-stops : goal.returns-clause-stops
returns-clause-stops c = λ cog. read-stops cog c.args.code c.args.until c.args.self.now c.below.result c.requires.loads c.below.ensures
