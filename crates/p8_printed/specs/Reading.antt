-- What a reader finds of lines of words: a token for each word, and one for each line's end.
use Rattle.std.specs.Prelude.{◌≡◌, ℕ, ◌+◌, ◌-◌, ◌*◌, ◌/◌, ◌==◌, if◌then◌else◌, ◌⊎◌, IsTrue, List, [], ◌∷◌, ◌++◌, slice_index, slice_get, unwrap_or, Some}
use Rattle.p8_lexer.specs.declared.token.Token.{Token}
use Rattle.p8_lexer.specs.declared.token.TokenKind.{TokenKind}
use Rattle.p8_lexer.specs.declared.token.TokenKind.TheVariants as kind
use Rattle.p8_lexer.specs.declared.word.Word.{Word}
use Rattle.p8_lexer.specs.declared.word.Word.TheVariants as word
use Rattle.p8_lexer.specs.Characters.{characters}
use Rattle.p8_lexer.specs.Lexing.{is_letter}
use Rattle.p8_lexer.specs.Words.{spelling, symbols, word_spelled, word_of}
use Rattle.p8_print.specs.Spelled.{Spelled, reserved, name, label, number, string, SpelledLine, spell}

-- the column after characters of a line, the first of which stands at a column: one more each, but for a tab (9),
-- which a string may have inside and which goes to the next column of the form 8k + 1
abbrev pub column_behind : ℕ → List ℕ → ℕ
column_behind column [] = column
column_behind column (c ∷ cs) = column_behind (if c == 9 then 8 * ((column - 1) / 8) + 9 else column + 1) cs

-- what a word is to a reader of Spin
abbrev pub word_read : Spelled → Word
word_read (reserved w) = w
word_read (name n) = word.Name
word_read (label n) = unwrap_or (word_spelled n) word.Name
word_read (number v) = word.Number
word_read (string s) = word.Str

-- the kind of token that a word is read as: a reserved word is a name to the lexer, a symbol has its number
abbrev pub IsKind : Spelled → TokenKind → Type 0
IsKind (reserved w) k = ((k ≡ kind.Name) × IsTrue (is_letter (slice_index (spelling w) 0))) ⊎ ((s : ℕ) × (k ≡ kind.Symbol s) × (slice_get symbols s ≡ Some w))
IsKind (name n) k = k ≡ kind.Name
IsKind (label n) k = k ≡ kind.Name
IsKind (number v) k = k ≡ kind.Number v
IsKind (string s) k = k ≡ kind.Str

-- a token of a file is a word that stands at a place
pub record IsWord (bytes : List ℕ) (line column : ℕ) (w : Spelled) (t : Token) : Type 0 where
  pub kind : IsKind w t.kind
  pub word : word_of bytes t ≡ word_read w
  pub characters : characters bytes t ≡ spell w
  pub place : t.place ≡ record { line = line; column = column }

-- a token of a file is a line's end that stands at a place
pub record IsLineEnd (bytes : List ℕ) (line column : ℕ) (t : Token) : Type 0 where
  pub kind : t.kind ≡ kind.LineEnd
  pub word : word_of bytes t ≡ word.LineEnd
  pub characters : characters bytes t ≡ 10 ∷ []
  pub place : t.place ≡ record { line = line; column = column }

-- the tokens of a line's words, the first of which stands at a column, and of the line's end
abbrev pub AreWords : List ℕ → ℕ → ℕ → List Spelled → List Token → Type 0
AreWords bytes line column [] (t ∷ []) = IsLineEnd bytes line column t
AreWords bytes line column (w ∷ ws) (t ∷ ts) = IsWord bytes line column w t × AreWords bytes line (column_behind column (spell w) + 1) ws ts
AreWords bytes line column _ _ = ⊥

-- the tokens of lines, the first of which has this number; a line's first word stands after its indentation
abbrev pub AreLines : List ℕ → ℕ → List SpelledLine → List Token → Type 0
AreLines bytes line [] tokens = tokens ≡ []
AreLines bytes line (l ∷ ls) tokens =
    (own : List Token) × (others : List Token) × (tokens ≡ own ++ others) × AreWords bytes line (l.indent + 1) l.words own × AreLines bytes (line + 1) ls others

-- the tokens of a file are those of these lines
abbrev pub AreRead : List ℕ → List SpelledLine → List Token → Type 0
AreRead bytes lines tokens = AreLines bytes 1 lines tokens
