-- internal: what a reader knows of the token before which it stands.
use Rattle.std.specs.Prelude.{◌≡◌, ℕ, ◌+◌, ◌≤◌, min, List, map, length}
use Rattle.p8_tree.specs.declared.places.Place.{Place}
use Rattle.p8_lexer.specs.Words.{capital}
use Rattle.p8_grammar.specs.Lexemes.{Lexeme, Token, token}
use Rattle.p8_grammar.specs.Machine.{loose}
use Rattle.p8_grammar.specs.Views.{lexeme_of}
use Rattle.p8_expr.specs.declared.lookahead.Lookahead.{Lookahead}
use Rattle.p8_expr.specs.Words.{between_quotes}
use Rattle.p8_expr.specs.Cursors.{place_at, text_at, lexeme_at, from}

-- the next token's place, what it is, and what it is but for a reserved word's characters; the tokens behind it
abbrev pub next_place : Lookahead → Place
next_place ahead = place_at ahead.here.tokens ahead.here.at

abbrev pub next_word : Lookahead → Lexeme
next_word ahead = lexeme_at ahead.here.bytes ahead.here.tokens ahead.here.at

abbrev pub next_lexeme : Lookahead → Lexeme
next_lexeme ahead = loose (next_word ahead)

abbrev pub next_text : Lookahead → List ℕ
next_text ahead = text_at ahead.here.bytes ahead.here.tokens ahead.here.at

abbrev pub next_token : Lookahead → Token
next_token ahead = token (next_place ahead) (next_word ahead)

-- the tokens that are left
abbrev pub left : Lookahead → List Token
left ahead = from ahead.here

-- a reader knows what the next token is
pub record Fits (ahead : Lookahead) : Type 0 where
  pub within : ahead.here.at ≤ length ahead.here.tokens
  pub knows : next_lexeme ahead ≡ lexeme_of (map capital (next_text ahead)) (between_quotes (next_text ahead)) ahead.lexeme

-- the same place of a file, or a later one
pub record Follows (ahead next : Lookahead) : Type 0 where
  pub later : ahead.here.at ≤ next.here.at
  pub bytes_are : next.here.bytes ≡ ahead.here.bytes
  pub tokens_are : next.here.tokens ≡ ahead.here.tokens
  pub fits : Fits next

-- the next one is behind the next token
pub record IsBehind (ahead next : Lookahead) : Type 0 where
  pub at_is : next.here.at ≡ min (ahead.here.at + 1) (length ahead.here.tokens)
  pub bytes_are : next.here.bytes ≡ ahead.here.bytes
  pub tokens_are : next.here.tokens ≡ ahead.here.tokens
  pub setting_is : next.setting ≡ ahead.setting
  pub later : ahead.here.at ≤ next.here.at
  pub fits : Fits next

-- this is next
abbrev pub HasNext : Lookahead → Lexeme → Type 0
HasNext ahead x = next_lexeme ahead ≡ x
