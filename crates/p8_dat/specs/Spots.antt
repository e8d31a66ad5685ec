-- Where the lines of DAT stand.
--
-- Two counts go along with the lines: the offset in the object, and the cog address, at which a line stands once a cog has
-- loaded it. Both go by bytes and move with each byte that is put. ORG sets the cog address, which is 0 at the file's first
-- line, and RES moves it alone. Source: the Propeller Manual v1.2, "DAT" of the Spin chapter, "ORG", "RES" and "FIT" of the
-- assembly chapter; that both counts stop at 1,048,576 is this project's profile.
use Rattle.std.specs.Prelude.{ℕ, ◌+◌, ◌-◌, ◌*◌, ◌%◌, min, List, [], ◌∷◌, length, Option, Some, None, unwrap_or}
use Rattle.p8_tree.specs.Expressions.{Tree, node, Str}
use Rattle.p8_tree.specs.Sources.{Datum, Contents, Data, Org, Res, Instr, Line}
use Rattle.p8_fold.specs.Meanings.{Setting}
use Rattle.p8_fold.specs.Values.{value}
use Rattle.p8_dat.specs.declared.spots.Spot.{Spot}

-- where both counts stop
abbrev pub limit : ℕ
limit = 1048576

-- n bytes further on
abbrev pub advanced : ℕ → Spot → Spot
advanced n p = record { offset = min (p.offset + n) limit; cog = min (p.cog + n) limit }

-- the bytes from an offset to the next multiple of a size
abbrev pub padding : ℕ → ℕ → ℕ
padding size offset = (size - offset % size) % size

-- the multiple on which a line's contents stand: instructions, ORG and data of longs on a long, data of words on a word
abbrev pub alignment : Contents → ℕ
alignment (Data size xs) = size
alignment (Instr x) = 4
alignment (Org e) = 4
alignment _ = 1

-- a value of ORG or RES or a count, or this one where none is written. What is refused counts as 0
abbrev pub number : Setting → ℕ → Option Tree → ℕ
number s n None = n
number s n (Some e) = unwrap_or (value s e) 0

-- where the contents of a line begin, after zero bytes; here stands its label
abbrev pub begun : Setting → Contents → Spot → Spot
begun s (Org e) p = record (advanced (padding 4 p.offset) p) { cog = min (4 * number s 0 e) limit }
begun s c p = advanced (padding (alignment c) p.offset) p

-- the size of an item's elements
abbrev pub size_of : ℕ → Datum → ℕ
size_of size x = unwrap_or x.size size

-- the characters of a string
abbrev pub string : Tree → Option (List ℕ)
string (node p (Str text)) = Some text
string _ = None

-- how many elements an item has: a string one for each character, a value as many as its count
abbrev pub elements : Setting → Option (List ℕ) → Option Tree → ℕ
elements s (Some text) count = length text
elements s None count = number s 1 count

abbrev pub behind_item : Setting → ℕ → Datum → Spot → Spot
behind_item s size x p = advanced (elements s (string x.value) x.count * size_of size x) p

abbrev pub behind_items : Setting → ℕ → List Datum → Spot → Spot
behind_items s size [] p = p
behind_items s size (x ∷ xs) p = behind_items s size xs (behind_item s size x p)

-- where a line's contents end
abbrev pub ended : Setting → Contents → Spot → Spot
ended s (Data size xs) p = behind_items s size xs p
ended s (Res e) p = record p { cog = min (p.cog + 4 * number s 1 e) limit }
ended s (Instr x) p = advanced 4 p
ended s c p = p

-- a line, where the line before it ends, and where its own contents begin
pub record Placed : Type 0 where
  pub line : Line
  pub from : Spot
  pub at : Spot

abbrev pub placed_line : Setting → Line → Spot → Placed
placed_line s x p = record { line = x; from = p; at = begun s x.contents p }

abbrev pub behind : Setting → Line → Spot → Spot
behind s x p = ended s x.contents (begun s x.contents p)

-- the lines from a spot on
abbrev pub placed : Setting → List Line → Spot → List Placed
placed s [] p = []
placed s (x ∷ xs) p = placed_line s x p ∷ placed s xs (behind s x p)

abbrev pub behind_lines : Setting → List Line → Spot → Spot
behind_lines s [] p = p
behind_lines s (x ∷ xs) p = behind_lines s xs (behind s x p)
