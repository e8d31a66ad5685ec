use Rattle.std.proofs.Common.{◌≡◌, ◌++◌, length}
use Rattle.p8_dat.specs.Bytes.{text_bytes}
use Rattle.p8_dat.proofs.data.put_text.Given as goal

abbrev pub invariant-loop-text : goal.invariant-loop-text
invariant-loop-text l =
    (l.out.bytes.items ++ text_bytes l.size l.text l.at ≡ l.initial.out.bytes.items ++ text_bytes l.size l.initial.text l.initial.at)
    × (l.out.fault ≡ l.initial.out.fault)

abbrev pub decreases-loop-text : goal.decreases-loop-text
decreases-loop-text l = length l.text
