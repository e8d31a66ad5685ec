-- internal: the table of the words as they are looked up.
use Rattle.std.specs.Prelude.{ℕ, ◌+◌, ◌-◌, ◌*◌, ◌%◌, min, List, [], ◌∷◌, ◌++◌, length, map, take, drop, slice_index, slice_get, if◌then◌else◌}
use Rattle.std.specs.Prelude.{Option, Some, None}
use Rattle.std.specs.List.{flat_map}
use Rattle.std.specs.Borrow.{Bor}
use Rattle.p8_lexer.specs.declared.word.Word.{Word}
use Rattle.p8_lexer.specs.declared.word.Word.TheVariants as word
use Rattle.p8_lexer.specs.declared.meaning.Meaning.{Meaning}
use Rattle.p8_lexer.specs.declared.table.TheConstants.{ORDER, STARTS}
use Rattle.p8_lexer.specs.Words.{entry, spelling, every_word, same}

-- a spelling and its word
abbrev pub Row : Type 0
Row = List ℕ × Word

-- a row as the code has it, with what its word means
abbrev pub CodeRow : Type 0
CodeRow = Bor (List ℕ) × Word × Meaning

abbrev pub row_of : CodeRow → Row
row_of r = (r.0.now, r.1)

-- the further spellings of a word
abbrev pub other_rows : Word → List Row
other_rows w = map (λ t. (t, w)) (drop 1 (entry w).spellings)

-- each word at its number, and then the further spellings
unfoldable pub rows : List Row
rows =
    map (λ w. (spelling w, w)) (every_word ++ (word.Name ∷ word.Number ∷ word.FloatNumber ∷ word.Str ∷ word.LineEnd ∷ []))
    ++ flat_map other_rows every_word

abbrev pub symbol_rows : List Row
symbol_rows = take 71 rows

-- what texts with the same first character and the same length have in common
abbrev pub key : ℕ → ℕ → ℕ
key first long = first % 32 * 16 + long % 16

-- the numbers of the rows of a key
unfoldable pub numbers_at : ℕ → List ℕ
numbers_at k = between (min (slice_index STARTS (k + 1)) (length ORDER))
  where
    between : ℕ → List ℕ
    between end = take (end - min (slice_index STARTS k) end) (drop (min (slice_index STARTS k) end) ORDER)

-- the word of a row, where it is spelled so
abbrev pub word_of_row : Option Row → List ℕ → Option Word
word_of_row None text = None
word_of_row (Some r) text = if same r.0 text then Some r.1 else None

abbrev pub or_else : Option Word → Option Word → Option Word
or_else None other = other
or_else (Some w) other = Some w

-- the word of the first of the rows of these numbers that is spelled so
abbrev pub word_in : List Row → List ℕ → List ℕ → Option Word
word_in rs [] text = None
word_in rs (n ∷ ns) text = or_else (word_of_row (slice_get rs n) text) (word_in rs ns text)

-- the word that is found for a text
abbrev pub found : List ℕ → Option Word
found text = word_in rows (numbers_at (key (slice_index text 0) (length text))) text
