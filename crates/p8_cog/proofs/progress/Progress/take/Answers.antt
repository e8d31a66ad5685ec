use Rattle.p8_cog.specs.Keeping.{begun-below}
use Rattle.p8_cog.proofs.progress.Progress.take.Goals as goal

pub take_first-requires-clause-begun : goal.take_first-requires-clause-begun
take_first-requires-clause-begun c = begun-below c.args.cog c.args.self.now c.args.turn.now c.in-Nothing.is c.requires.comes
