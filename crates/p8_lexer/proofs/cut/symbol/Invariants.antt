use Rattle.std.proofs.Common.{ℕ, length, ◌<◌, ◌≤◌}
use Rattle.p8_lexer.specs.declared.piece.PieceKind.TheVariants.{Token as TokenOf}
use Rattle.p8_lexer.specs.declared.token.TokenKind.TheVariants.{Symbol}
use Rattle.p8_lexer.specs.Lexing.{Is}
use Rattle.p8_lexer.proofs.cut.symbol.Given as goal

abbrev pub invariant-lengths : goal.invariant-lengths
invariant-lengths l = record { within : l.length ≤ length l.text; past : (s m : ℕ) → l.length < m → m ≤ length l.text → Is (TokenOf (Symbol s)) l.text m → ⊥ }

abbrev pub decreases-lengths : goal.decreases-lengths
decreases-lengths l = l.length
