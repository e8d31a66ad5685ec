-- What a token of a source is to a line and to an expression, by the table of words.
use Rattle.std.specs.Prelude.{◌≡◌, ℕ, Bool, true, false, List, ◌++◌, map, slice_get, Option, Some, None}
use Rattle.p8_lexer.specs.declared.token.TokenKind.{TokenKind}
use Rattle.p8_lexer.specs.declared.token.TokenKind.TheVariants as kind
use Rattle.p8_lexer.specs.declared.word.Word.{Word}
use Rattle.p8_lexer.specs.declared.word.Word.TheVariants as words
use Rattle.p8_lexer.specs.Words.{capital}
use Rattle.p8_lexer.specs.Pieces.{Piece}
use Rattle.p8_grammar.specs.Lexemes as lexemes
use Rattle.p8_grammar.specs.Lexemes.{Lexeme, token, number, name, string, other}
use Rattle.p8_expr.specs.Words.{between_quotes, reserved_as}
use Rattle.p8_lines.specs.Tokens.{LineToken, piece_from}
use Rattle.p8_prop.specs.Words.{Entry, symbols, reserved_words, spelled_so}

-- BYTE, WORD and LONG
abbrev pub is_size : Word → Bool
is_size words.ByteSize = true
is_size words.WordSize = true
is_size words.LongSize = true
is_size w = false

-- what the table says of a word with these characters, whatever the case of its letters
abbrev pub entry_of : List ℕ → Option Entry
entry_of text = spelled_so (map capital text) (symbols ++ reserved_words)

-- what isn't in the table is a name
abbrev pub word_in : Option Entry → Word
word_in None = words.Name
word_in (Some e) = e.word

abbrev pub word_by : List ℕ → TokenKind → Word
word_by text kind.Name = word_in (entry_of text)
word_by text (kind.Symbol n) = word_in (slice_get symbols n)
word_by text (kind.Number v) = words.Number
word_by text kind.Float = words.FloatNumber
word_by text kind.Str = words.Str
word_by text kind.LineEnd = words.LineEnd

abbrev pub word : LineToken → Word
word t = word_by t.text t.kind

-- what it is to an expression
abbrev pub lexeme_in : List ℕ → Option Entry → Lexeme
lexeme_in text None = name (map capital text)
lexeme_in text (Some e) = e.lexeme

abbrev pub lexeme_by : List ℕ → TokenKind → Lexeme
lexeme_by text kind.Name = reserved_as (map capital text) (lexeme_in text (entry_of text))
lexeme_by text (kind.Symbol n) = lexeme_in text (slice_get symbols n)
lexeme_by text (kind.Number v) = number v
lexeme_by text kind.Str = string (between_quotes text)
lexeme_by text k = other

abbrev pub lexeme : LineToken → Lexeme
lexeme t = lexeme_by t.text t.kind

-- tokens as expressions have them
abbrev pub terms : List LineToken → List lexemes.Token
terms ts = map (λ t. token t.place (lexeme t)) ts

-- the piece that it is
abbrev pub piece : LineToken → Piece
piece t = piece_from (lexeme t) (word t) t.place

-- a block's word, in column 1
pub record IsHead (w : Word) (t : LineToken) : Type 0 where
  pub is : word t ≡ w
  pub first : t.place.column ≡ 1
