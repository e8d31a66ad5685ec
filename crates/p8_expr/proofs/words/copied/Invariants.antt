use Rattle.std.proofs.Common.{◌≡◌, take}
use Rattle.p8_expr.proofs.words.copied.Given as goal

abbrev pub invariant-loop-i : goal.invariant-loop-i
invariant-loop-i l = l.bytes.items ≡ take l.i l.text
