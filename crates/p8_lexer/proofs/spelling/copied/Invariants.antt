use Rattle.std.proofs.Common.{◌≡◌, take}
use Rattle.p8_lexer.proofs.spelling.copied.Given as goal

abbrev pub invariant-loop-i : goal.invariant-loop-i
invariant-loop-i l = l.bytes.items ≡ take l.i l.text
