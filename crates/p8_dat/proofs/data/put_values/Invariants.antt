use Rattle.std.proofs.Common.{◌≡◌, ◌++◌}
use Rattle.p8_dat.specs.Bytes.{spots, value_bytes}
use Rattle.p8_dat.proofs.data.put_values.Given as goal

abbrev pub invariant-loop-left : goal.invariant-loop-left
invariant-loop-left l =
    (l.out.bytes.items ++ value_bytes l.size l.value (spots l.size l.left l.at) ≡ l.initial.out.bytes.items ++ value_bytes l.size l.value (spots l.size l.initial.left l.initial.at))
    × (l.out.fault ≡ l.initial.out.fault)

abbrev pub decreases-loop-left : goal.decreases-loop-left
decreases-loop-left l = l.left
