use Rattle.std.proofs.Common.{arith}
use Rattle.p8_desk.proofs.Keeping.{frees-as}
use Rattle.p8_desk.proofs.steps.release.Goals as goal

pub store-requires : goal.store-requires
store-requires c = (c.requires.own, (let words = c.requires.shape.0 in omega arith), frees-as _ _ _ _ c.requires.shape.1 c.requires.free)
