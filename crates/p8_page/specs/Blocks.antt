-- The blocks of a page, and the bytes in them (this project's profile). A block is a `script` element of a type that is no program, a data block of HTML
-- (HTML Living Standard, "The script element"): a browser runs nothing of it, and its text ends at `</script`. So the text of a block that has no `<` is
-- what stands between its marks.
use Rattle.std.specs.Prelude.{ℕ, ◌+◌, ◌-◌, ◌*◌, ◌<◌, ◌==◌, ◌&&◌, ◌||◌, not, nat_le, nat_lt, if◌then◌else◌, Bool, true}
use Rattle.std.specs.Prelude.{List, [], ◌∷◌, ◌++◌, codes, flat_map}
use Rattle.p8_instr.specs.Numerals.{hex}
use Rattle.p8_page.specs.declared.block_kind.BlockKind.{BlockKind}
use Rattle.p8_page.specs.declared.block_kind.BlockKind.TheVariants as kind

-- what a block may hold: line feeds, and what ASCII prints but for `<`, with which all markup begins
abbrev pub is_inert : ℕ → Bool
is_inert c = (c == 10) || (nat_le 32 c && nat_le c 126 && not (c == 60))

-- nothing of a text is markup
abbrev pub are_inert : List ℕ → Bool
are_inert [] = true
are_inert (c ∷ cs) = is_inert c && are_inert cs

-- the bytes that stand for themselves: all of these but `%`
abbrev pub is_plain : ℕ → Bool
is_plain c = is_inert c && not (c == 37)

-- a byte as it stands in a block: itself, or `%` and two hexadecimal digits
abbrev pub escaped : ℕ → List ℕ
escaped c = if is_plain c then c ∷ [] else codes "%" ++ hex 2 c

-- the value of a hexadecimal digit
abbrev pub digit_of : ℕ → ℕ
digit_of c = if nat_lt c 65 then c - 48 else c - 55

-- the bytes that the text of a block stands for
abbrev mutual
  pub unescaped : List ℕ → List ℕ
  unescaped [] = []
  unescaped (c ∷ cs) = if c == 37 then behind_sign cs else c ∷ unescaped cs

  pub behind_sign : List ℕ → List ℕ
  behind_sign [] = []
  behind_sign (c ∷ cs) = behind_digit (digit_of c) cs

  pub behind_digit : (high : ℕ) → List ℕ → List ℕ
  behind_digit high [] = []
  behind_digit high (c ∷ cs) = (16 * high + digit_of c) ∷ unescaped cs

-- these numbers are bytes
abbrev pub AreBytes : List ℕ → Type 0
AreBytes [] = Unit {0}
AreBytes (c ∷ cs) = (c < 256) × AreBytes cs

-- the word of a kind, by which the page's script finds a block
abbrev pub word_of : BlockKind → List ℕ
word_of kind.File = codes "file"
word_of kind.Range = codes "range"
word_of kind.Windows = codes "windows"
word_of kind.View = codes "view"
word_of kind.Pins = codes "pins"
word_of kind.Map = codes "map"
word_of kind.Name = codes "name"
word_of kind.Source = codes "source"

abbrev pub mark_of : BlockKind → List ℕ
mark_of k = codes "<script type=\"text/plain\" class=\"" ++ word_of k ++ codes "\">"

-- a block of these bytes
abbrev pub block_text : BlockKind → (bytes : List ℕ) → List ℕ
block_text k bytes = mark_of k ++ flat_map escaped bytes ++ codes "</script>\n"
