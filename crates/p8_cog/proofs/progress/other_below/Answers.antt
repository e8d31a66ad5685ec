use Rattle.p8_cog.specs.Keeping.{below-stops}
use Rattle.p8_cog.proofs.progress.other_below.Goals as goal

pub returns-clause-stops : goal.returns-clause-stops
returns-clause-stops c = below-stops c.args.cog _ c.args.until c.args.state.now _ c.below.result c.below.ensures c.in-Half.ensures.comes
