use Rattle.std.proofs.Common.{◌≡◌, map, take}
use Rattle.p8_lexer.specs.Words.{capital}
use Rattle.p8_expr.proofs.words.capitals.Given as goal

abbrev pub invariant-loop-i : goal.invariant-loop-i
invariant-loop-i l = l.bytes.items ≡ map capital (take l.i l.text)
