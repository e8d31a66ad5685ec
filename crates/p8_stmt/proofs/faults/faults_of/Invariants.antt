use Rattle.std.proofs.Common.{◌≡◌, take, map}
use Rattle.p8_tree.specs.Faults.{fault}
use Rattle.p8_tree.specs.declared.refusal.Refusal.TheVariants.{JumpTooFar}
use Rattle.p8_stmt.proofs.faults.faults_of.Given as goal

abbrev pub invariant-loop-place : goal.invariant-loop-place
invariant-loop-place l = l.faults.items ≡ map (fault JumpTooFar) (take l.place-index l.too_far)
