-- The tokens of a source, as lines have them.
use Rattle.std.specs.Prelude.{ℕ, ◌+◌, List, [], ◌∷◌, ◌++◌, map, drop, length, unwrap_or}
use Rattle.p8_tree.specs.declared.places.Place.{Place}
use Rattle.p8_lexer.specs.declared.word.Word.{Word}
use Rattle.p8_lexer.specs.declared.token.Token as lexer_token
use Rattle.p8_lexer.specs.declared.token.TokenKind.{TokenKind}
use Rattle.p8_lexer.specs.declared.token.TokenKind.TheVariants as kind
use Rattle.p8_lexer.specs.Characters.{characters}
use Rattle.p8_lexer.specs.Words.{word_of_kind}
use Rattle.p8_grammar.specs.Lexemes as lexemes
use Rattle.p8_grammar.specs.Lexemes.{Lexeme, token}
use Rattle.p8_expr.specs.Words.{lexeme_by_kind, between_quotes}
use Rattle.p8_expr.specs.Cursors.{Spot}
use Rattle.p8_lexer.specs.Pieces as pieces
use Rattle.p8_lexer.specs.Pieces.{Piece}

-- a token's characters, its kind and its place
pub record LineToken : Type 0 where
  pub place : Place
  pub text : List ℕ
  pub kind : TokenKind

abbrev pub word : LineToken → Word
word t = word_of_kind t.text t.kind

-- what it is to an expression
abbrev pub lexeme : LineToken → Lexeme
lexeme t = lexeme_by_kind t.text (word t) t.kind

-- tokens as expressions have them
abbrev pub term : LineToken → lexemes.Token
term t = token t.place (lexeme t)

abbrev pub terms : List LineToken → List lexemes.Token
terms ts = map term ts

-- how many characters a string has
abbrev pub string_length : LineToken → ℕ
string_length t = length (between_quotes t.text)

-- the piece that it is
abbrev pub piece_from : Lexeme → Word → Place → Piece
piece_from (lexemes.name n) w p = pieces.name n p
piece_from (lexemes.string x) w p = pieces.text x p
piece_from _ w p = pieces.word w p

abbrev pub piece : LineToken → Piece
piece t = piece_from (lexeme t) (word t) t.place

-- the piece that it is behind the colon of a local label
abbrev pub label_piece : LineToken → Piece
label_piece t = pieces.label (unwrap_or (lexemes.name_in (lexeme t)) []) t.place

abbrev pub line_token : List ℕ → lexer_token.Token → LineToken
line_token bytes t = record { place = t.place; text = characters bytes t; kind = t.kind }

-- the place of the last of these tokens, after one at another place
abbrev pub last_place : Place → List LineToken → Place
last_place p [] = p
last_place p (t ∷ ts) = last_place t.place ts

-- The end of a text ends its last line: it counts as a line's end, and a refusal there is told at the
-- text's last token.
abbrev pub text_end : List LineToken → LineToken
text_end ts = record { place = last_place (record { line = 1; column = 1 }) ts; text = []; kind = kind.LineEnd }

abbrev pub with_end : List LineToken → List LineToken
with_end ts = ts ++ text_end ts ∷ []

-- the tokens of a text, with its end
abbrev pub all_tokens : List ℕ → List lexer_token.Token → List LineToken
all_tokens bytes tokens = with_end (map (line_token bytes) tokens)

-- from the one of this number on
abbrev pub tokens_from : List ℕ → List lexer_token.Token → ℕ → List LineToken
tokens_from bytes tokens at = drop at (all_tokens bytes tokens)

-- from a spot on, and behind the first of those
abbrev pub left : Spot → List LineToken
left s = tokens_from s.bytes s.tokens s.at

abbrev pub left_behind : Spot → List LineToken
left_behind s = tokens_from s.bytes s.tokens (s.at + 1)
