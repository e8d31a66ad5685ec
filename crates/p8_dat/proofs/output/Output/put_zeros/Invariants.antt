use Rattle.std.proofs.Common.{◌≡◌, ◌++◌}
use Rattle.p8_dat.specs.Bytes.{zeros}
use Rattle.p8_dat.proofs.output.Output.put_zeros.Given as goal

abbrev pub invariant-loop-left : goal.invariant-loop-left
invariant-loop-left l =
    (l.self.bytes.items ++ zeros l.left ≡ l.initial.self.bytes.items ++ zeros l.initial.left) × (l.self.fault ≡ l.initial.self.fault)

abbrev pub decreases-loop-left : goal.decreases-loop-left
decreases-loop-left l = l.left
