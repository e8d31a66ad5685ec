use Rattle.std.proofs.Common.{arith}
use Rattle.p8_desk.proofs.Keeping.{seizes-as}
use Rattle.p8_desk.proofs.steps.seize.Goals as goal

pub compare_exchange-requires : goal.compare_exchange-requires
compare_exchange-requires c = (c.requires.own, (let words = c.requires.shape.0 in omega arith), seizes-as _ _ _ _ c.args.cog _ c.requires.shape.1 c.requires.free.0 c.requires.free.1 c.requires.free.2 c.requires.pass (omega arith))
