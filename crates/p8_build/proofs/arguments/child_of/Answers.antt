use Rattle.std.proofs.Common.{drop}
use Rattle.p8_constants.specs.Standing.{items_of}
use Rattle.p8_build.proofs.Called.{no_child}
use Rattle.p8_build.proofs.arguments.child_of.Goals as goal

pub returns-in_default : goal.returns-in_default
returns-in_default c = no_child c.args.name.now (items_of (drop c.loop-item.item-index c.args.items.now)) c.loop-item.left.now c.in_default.len_below c.loop-item.invariant
