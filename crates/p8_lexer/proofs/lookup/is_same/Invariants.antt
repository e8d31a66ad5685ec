use Rattle.std.proofs.Common.{◌≡◌, ℕ, ◌<◌, get_or}
use Rattle.p8_lexer.specs.Words.{capital}
use Rattle.p8_lexer.proofs.lookup.is_same.Given as goal

abbrev pub invariant-loop-i : goal.invariant-loop-i
invariant-loop-i l = (k : ℕ) → k < l.i → get_or l.spelling k 0 ≡ capital (get_or l.text k 0)
