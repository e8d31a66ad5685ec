-- internal: what the functions that cut a piece off a text say to each other.
use Rattle.std.specs.Prelude.{ℕ, ◌+◌, ◌<◌, ◌≤◌, false, List, [], ◌∷◌, length, Option, Some, None, MatchOption, Result, Ok, Err, MatchResult}
use Rattle.p8_tree.specs.declared.places.Place.{Place}
use Rattle.p8_lexer.specs.declared.token.Token.{Token}
use Rattle.p8_lexer.specs.declared.piece.Cut.{Cut}
use Rattle.p8_lexer.specs.declared.piece.PieceKind.{PieceKind}
use Rattle.p8_lexer.specs.declared.piece.PieceKind.TheVariants.{Token as TokenOf}
use Rattle.p8_lexer.specs.declared.token.TokenKind.TheVariants.{Symbol}
use Rattle.p8_tree.specs.declared.refusal.Refusal.{Refusal}
use Rattle.p8_tree.specs.declared.refusal.Refusal.TheVariants.{OpenComment}
use Rattle.p8_lexer.specs.Characters.{offset_of}
use Rattle.p8_lexer.specs.Lexing.{Is, Cuts, IsGood, IsStuck}

-- the greatest number at which a fact holds, among those up to a limit
pub record IsGreatest (P : ℕ → Type 0) (limit n : ℕ) : Type 0 where
  pub within : n ≤ limit
  pub holds : P n
  pub greatest : (m : ℕ) → n < m → m ≤ limit → ¬ P m

abbrev pub IsLongest : (ℕ → Type 0) → ℕ → Option ℕ → Type 0
IsLongest P limit r = MatchOption r ((n : ℕ) → n ≤ limit → ¬ P n) (IsGreatest P limit)

-- a good piece begins a text
abbrev pub IsCut : List ℕ → Cut → Type 0
IsCut text cut = Cuts cut.kind text cut.length × IsGood cut.kind text cut.length

abbrev pub IsCutOrStuck : List ℕ → Result Cut Refusal → Type 0
IsCutOrStuck text r = MatchResult r (IsCut text) (λ refusal. IsStuck refusal false text)

-- a comment that ends, or is open
abbrev pub cut_or_open : PieceKind → Option ℕ → Result Cut Refusal
cut_or_open kind None = Err OpenComment
cut_or_open kind (Some n) = Ok (record { kind = kind; length = n })

abbrev pub IsSymbol : PieceKind → Type 0
IsSymbol (TokenOf (Symbol _)) = Unit {0}
IsSymbol _ = ⊥

-- nothing but a symbol begins a text
abbrev pub OnlySymbols : List ℕ → Type 0
OnlySymbols text = (k : PieceKind) (n : ℕ) → n ≤ length text → Is k text n → IsSymbol k

-- the token that a piece at a place is, unless it's a blank or a comment
abbrev pub piece_tokens : List ℕ → ℕ → Place → Cut → List Token
piece_tokens bytes at place cut = tokens_of_kind cut.kind
  where
    tokens_of_kind : PieceKind → List Token
    tokens_of_kind (TokenOf k) = record { place = place; kind = k; begin = offset_of bytes at; end = offset_of bytes (at + cut.length) } ∷ []
    tokens_of_kind _ = []
