-- A spot among the tokens of a file: before the token of a number, at the text's end behind the last one, or past that. At
-- the text's end stands what ends a line, at the place of the last token.
use Rattle.std.specs.Prelude.{◌≡◌, ℕ, ◌+◌, ◌-◌, ◌<◌, ◌≤◌, List, [], length, slice_get, Option, Some, None, option_map, unwrap_or}
use Rattle.p8_tree.specs.declared.places.Place.{Place}
use Rattle.p8_lexer.specs.declared.token.Token.{Token}
use Rattle.p8_lexer.specs.declared.word.Word.{Word}
use Rattle.p8_lexer.specs.declared.word.Word.TheVariants as word
use Rattle.p8_lexer.specs.Characters.{characters}
use Rattle.p8_lexer.specs.Words.{word_of}
use Rattle.p8_grammar.specs.Lexemes as lexemes
use Rattle.p8_expr.specs.Words.{lexeme_of_token}
use Rattle.p8_expr.specs.Parsing.{tokens_from}

pub record Spot : Type 0 where
  pub bytes : List ℕ
  pub tokens : List Token
  -- the number of the token
  pub at : ℕ

-- the same file's spot of this number
abbrev pub moved : Spot → ℕ → Spot
moved s n = record { bytes = s.bytes; tokens = s.tokens; at = n }

-- a later spot of the same file
abbrev pub IsLater : Spot → Spot → Type 0
IsLater s t = (t ≡ moved s t.at) × (s.at < t.at) × (t.at ≤ length s.tokens + 1)

-- the token there, if there is one
abbrev pub token_there : Spot → Option Token
token_there s = slice_get s.tokens s.at

-- what stands there, to a reader of Spin
abbrev pub word_there : Spot → Word
word_there s = unwrap_or (option_map (word_of s.bytes) (token_there s)) word.LineEnd

-- the last token's place, or the text's first one
abbrev pub end_place : List Token → Place
end_place tokens = unwrap_or (option_map (λ t. t.place) (slice_get tokens (length tokens - 1))) (record { line = 1; column = 1 })

abbrev pub place_there : Spot → Place
place_there s = unwrap_or (option_map (λ t. t.place) (token_there s)) (end_place s.tokens)

-- internal: so by the file's parts, and what stands there to an expression
abbrev pub place_or : Option Token → Place → Place
place_or o p = unwrap_or (option_map (λ t. t.place) o) p

abbrev pub place_at : List Token → ℕ → Place
place_at tokens at = place_or (slice_get tokens at) (end_place tokens)

abbrev pub text_in : List ℕ → Option Token → List ℕ
text_in bytes (Some t) = characters bytes t
text_in bytes None = []

abbrev pub text_at : List ℕ → List Token → ℕ → List ℕ
text_at bytes tokens at = text_in bytes (slice_get tokens at)

abbrev pub lexeme_in : List ℕ → Option Token → lexemes.Lexeme
lexeme_in bytes (Some t) = lexeme_of_token bytes t
lexeme_in bytes None = lexemes.other

abbrev pub lexeme_at : List ℕ → List Token → ℕ → lexemes.Lexeme
lexeme_at bytes tokens at = lexeme_in bytes (slice_get tokens at)

abbrev pub text_there : Spot → List ℕ
text_there s = text_at s.bytes s.tokens s.at

abbrev pub lexeme_there : Spot → lexemes.Lexeme
lexeme_there s = lexeme_at s.bytes s.tokens s.at

-- the tokens from there on
abbrev pub from : Spot → List lexemes.Token
from s = tokens_from s.bytes s.tokens s.at
