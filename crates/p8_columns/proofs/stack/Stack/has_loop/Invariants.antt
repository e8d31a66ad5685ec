use Rattle.std.proofs.Common.{◌≡◌, ◌-◌, length, drop}
use Rattle.p8_columns.proofs.Frames.{has_loop}
use Rattle.p8_columns.proofs.stack.Stack.has_loop.Given as goal

abbrev pub invariant-outward : goal.invariant-outward
invariant-outward l = has_loop (drop l.first l.self) ≡ has_loop (drop l.index l.self)

abbrev pub decreases-outward : goal.decreases-outward
decreases-outward l = length l.self - l.index
