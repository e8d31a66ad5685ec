-- Sources as lines of words, and their text: what a printer writes.
use Rattle.std.specs.Prelude.{◌≡◌, ℕ, ◌^◌, ◌<◌, ◌≤◌, Bool, true, false, IsTrue, List, [], ◌∷◌, ◌++◌, length, slice_index, replicate, Option, Some, None, All}
use Rattle.std.specs.List.{flat_map}
use Rattle.std.specs.Fmt.{decimal}
use Rattle.p8_lexer.specs.declared.word.Word.{Word}
use Rattle.p8_lexer.specs.declared.word.Word.TheVariants as word
use Rattle.p8_lexer.specs.declared.piece.Class.TheVariants as class
use Rattle.p8_lexer.specs.Lexing.{is_letter, AllIn}
use Rattle.p8_lexer.specs.Words.{spelling, word_spelled}

-- a word as it's written
pub data Spelled : Type 0 where
  -- a symbol or a reserved word
  reserved : Word → Spelled
  -- a name that isn't reserved
  name : List ℕ → Spelled
  -- a reserved word as the name of a local label, by its characters
  label : List ℕ → Spelled
  -- a number in decimal digits
  number : ℕ → Spelled
  -- a string of these characters
  string : List ℕ → Spelled

-- neither a symbol nor a reserved word
abbrev pub is_free : Word → Bool
is_free word.Name = true
is_free word.Number = true
is_free word.FloatNumber = true
is_free word.Str = true
is_free word.LineEnd = true
is_free _ = false

-- it can be read back: names and the names of local labels are those of the language, numbers have 32 bits, and strings stand
-- on one line
abbrev pub IsReadable : Spelled → Type 0
IsReadable (reserved w) = is_free w ≡ false
IsReadable (name n) = (0 < length n) × (length n ≤ 30) × IsTrue (is_letter (slice_index n 0)) × AllIn class.Name n 1 (length n) × (word_spelled n ≡ None)
IsReadable (label n) = (0 < length n) × (length n ≤ 30) × IsTrue (is_letter (slice_index n 0)) × AllIn class.Name n 1 (length n)
IsReadable (number v) = v < 2 ^ 32
IsReadable (string s) = AllIn class.Quoted s 0 (length s) × ((i : ℕ) → i < length s → slice_index s i < 256)

-- the word behind the colon of a local label, which may be a reserved one
abbrev pub label_by : Option Word → List ℕ → Spelled
label_by None n = name n
label_by (Some w) n = label n

abbrev pub word_of_label : List ℕ → Spelled
word_of_label n = label_by (word_spelled n) n

-- a line: how far it's indented, and its words
pub record SpelledLine : Type 0 where
  pub indent : ℕ
  pub words : List Spelled

abbrev pub IsReadableLine : SpelledLine → Type 0
IsReadableLine line = All IsReadable line.words

-- characters: 10 is LF, 32 space, 34 `"`

-- the characters of a word; a number is in decimal digits without leading zeros
unfoldable pub spell : Spelled → List ℕ
spell (reserved w) = spelling w
spell (name n) = n
spell (label n) = n
spell (number v) = decimal v
spell (string s) = 34 ∷ (s ++ 34 ∷ [])

-- a word and the blank after it
abbrev pub written : Spelled → List ℕ
written w = spell w ++ 32 ∷ []

abbrev pub text_of_words : List Spelled → List ℕ
text_of_words words = flat_map written words

abbrev pub text_of_line : SpelledLine → List ℕ
text_of_line line = replicate line.indent 32 ++ (text_of_words line.words ++ 10 ∷ [])

abbrev pub text_of_lines : List SpelledLine → List ℕ
text_of_lines lines = flat_map text_of_line lines
