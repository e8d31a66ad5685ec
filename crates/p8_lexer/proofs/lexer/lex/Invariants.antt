use Rattle.std.proofs.Common.{◌≡◌, ◌-◌, ◌≤◌, length}
use Rattle.p8_lexer.specs.Characters.{text_of}
use Rattle.p8_lexer.specs.Places.{place_of}
use Rattle.p8_lexer.proofs.Files.{SoFar}
use Rattle.p8_lexer.proofs.lexer.lex.Given as goal

abbrev pub invariant-pieces : goal.invariant-pieces
invariant-pieces l = record { within : l.at ≤ length (text_of l.bytes); so_far : SoFar l.bytes l.at l.tokens.items; here : l.place ≡ place_of (text_of l.bytes) l.at }

abbrev pub decreases-pieces : goal.decreases-pieces
decreases-pieces l = length (text_of l.bytes) - l.at
