use Rattle.std.proofs.Common.{◌≡◌}
use Rattle.p8_lexer.specs.Places.{place_of}
use Rattle.p8_lexer.proofs.PlaceLemmas.{before_at}
use Rattle.p8_lexer.proofs.source_places.place_at.Given as goal

abbrev pub invariant-loop-i : goal.invariant-loop-i
invariant-loop-i l = record { at : l.place ≡ place_of l.text l.i; behind : l.before ≡ before_at l.text l.i }
