-- The bytes of the lines of DAT. A value is reduced to its size, its lowest byte comes first, and bytes end at the limit.
-- Source: the Propeller Manual v1.2, "DAT" of the Spin chapter.
use Rattle.std.specs.Prelude.{ℕ, zero, suc, ◌-◌, ◌/◌, nat_lt, if◌then◌else◌, List, [], ◌∷◌, ◌++◌, take, Option, Some, None, unwrap_or}
use Rattle.std.specs.Int.{to_le_bytes, w32}
use Rattle.p8_tree.specs.Expressions.{Tree}
use Rattle.p8_tree.specs.Sources.{Datum, Contents, Data, Instr}
use Rattle.p8_fold.specs.Meanings.{Setting, outside_operands, in_operand}
use Rattle.p8_fold.specs.Values.{value}
use Rattle.p8_dat.specs.Encoding.{long_of_line}
use Rattle.p8_dat.specs.declared.spots.Spot.{Spot}
use Rattle.p8_dat.specs.Spots.{limit, advanced, number, string, size_of, behind_item, Placed}

-- bytes that are to stand from a spot on: those below the limit do
abbrev pub within : Spot → List ℕ → List ℕ
within p bytes = take (limit - p.offset) bytes

-- an element of 1, 2 or 4 bytes
abbrev pub element : ℕ → ℕ → Spot → List ℕ
element size v p = within p (take size (to_le_bytes w32 v))

-- `$` in data is the cog address of the item, in longs: where its first element stands
abbrev pub in_data : Setting → Spot → Setting
in_data t p = record t { here = outside_operands (Some (p.cog / 4)) }

-- and in an operand that of the instruction
abbrev pub in_instruction : Setting → Spot → Setting
in_instruction t p = record t { here = in_operand (p.cog / 4) }

-- where the elements of a row of n stand; there are none after the limit
abbrev pub spots : ℕ → ℕ → Spot → List Spot
spots size zero p = []
spots size (suc n) p = if nat_lt p.offset limit then p ∷ spots size n (advanced size p) else []

-- an element with this value for each spot
abbrev pub value_bytes : ℕ → ℕ → List Spot → List ℕ
value_bytes size v [] = []
value_bytes size v (p ∷ ps) = element size v p ++ value_bytes size v ps

abbrev pub text_bytes : ℕ → List ℕ → Spot → List ℕ
text_bytes size [] p = []
text_bytes size (c ∷ cs) p = element size c p ++ text_bytes size cs (advanced size p)

-- an item; s is the setting of counts, t that of values
abbrev pub elements_bytes : Setting → Setting → ℕ → Option (List ℕ) → Tree → Option Tree → Spot → List ℕ
elements_bytes s t size (Some text) e count p = text_bytes size text p
elements_bytes s t size None e count p = value_bytes size (unwrap_or (value (in_data t p) e) 0) (spots size (number s 1 count) p)

abbrev pub item_bytes : Setting → Setting → ℕ → Datum → Spot → List ℕ
item_bytes s t size x p = elements_bytes s t (size_of size x) (string x.value) x.value x.count p

abbrev pub items_bytes : Setting → Setting → ℕ → List Datum → Spot → List ℕ
items_bytes s t size [] p = []
items_bytes s t size (x ∷ xs) p = item_bytes s t size x p ++ items_bytes s t size xs (behind_item s size x p)

abbrev pub contents_bytes : Setting → Setting → Contents → Spot → List ℕ
contents_bytes s t (Data size xs) p = items_bytes s t size xs p
contents_bytes s t (Instr x) p = element 4 (long_of_line (in_instruction t p) x) p
contents_bytes s t c p = []

-- zero bytes
abbrev pub zeros : ℕ → List ℕ
zeros zero = []
zeros (suc n) = 0 ∷ zeros n

-- a line: zero bytes up to its contents, and its contents
abbrev pub line_bytes : Setting → Setting → Placed → List ℕ
line_bytes s t x = zeros (x.at.offset - x.from.offset) ++ contents_bytes s t x.line.contents x.at

abbrev pub lines_bytes : Setting → Setting → List Placed → List ℕ
lines_bytes s t [] = []
lines_bytes s t (x ∷ xs) = line_bytes s t x ++ lines_bytes s t xs
