-- Ranges of the hub, each with a text.
use Rattle.std.specs.Prelude.{ℕ, suc, ◌-◌, ◌≤◌, ◌&&◌, ◌||◌, nat_le, nat_lt, if◌then◌else◌, Bool, List, [], ◌∷◌, ◌++◌, Option, Some, None, option_map, slice_get}
use Rattle.std.specs.Str.{str_eq_ignore_ascii_case}
use Rattle.std.proofs.Props.{props}
use Rattle.p8_legend.specs.declared.ranges.FoundRange.{FoundRange}
use Rattle.p8_legend.specs.declared.ranges.Range.{Range}

-- each begins at or after this address, and at or after the end of the one before it; one may have no byte
abbrev pub AreApart : (lowest : ℕ) → List Range → Type 0
AreApart lowest [] = Unit {0}
AreApart lowest (r ∷ ranges) = (lowest ≤ r.address) × (r.address ≤ r.end) × AreApart r.end ranges

pub is_prop-AreApart : (lowest : ℕ) (ranges : List Range) → IsProp (AreApart lowest ranges)
is_prop-AreApart lowest [] = hlevel props
is_prop-AreApart lowest (r ∷ ranges) = hlevel (props, is_prop-AreApart r.end ranges)

-- where the last one ends; this address, where there is none
abbrev pub last_end : (lowest : ℕ) → List Range → ℕ
last_end lowest [] = lowest
last_end lowest (r ∷ ranges) = last_end r.end ranges

-- one more with its text behind the others, if it doesn't begin before they end, nor end before it begins
abbrev pub with_range : List Range → List (List ℕ) → Range → (text : List ℕ) → List Range × List (List ℕ)
with_range ranges texts r text =
    if nat_lt r.address (last_end 0 ranges) || nat_lt r.end r.address then (ranges, texts) else (ranges ++ r ∷ [], texts ++ text ∷ [])

-- an address lies in a range
abbrev pub holds : (address : ℕ) → Range → Bool
holds address r = nat_le r.address address && nat_lt address r.end

-- one range more comes before it
abbrev pub behind_one : FoundRange → FoundRange
behind_one found = record { number = suc found.number; offset = found.offset }

-- the first range in which an address lies
abbrev pub found_at : List Range → (address : ℕ) → Option FoundRange
found_at [] address = None
found_at (r ∷ ranges) address =
    if holds address r then Some (record { number = 0; offset = address - r.address }) else option_map behind_one (found_at ranges address)

-- the text of the range of this number
abbrev pub text_or : Option (List ℕ) → List ℕ
text_or None = []
text_or (Some text) = text

abbrev pub text_of : List (List ℕ) → (number : ℕ) → List ℕ
text_of texts number = text_or (slice_get texts number)

-- the address of the first range with this text, in letters of either case, and how many bytes it has
abbrev pub range_named : List Range → List (List ℕ) → (name : List ℕ) → Option (ℕ × ℕ)
range_named (r ∷ ranges) (text ∷ texts) name = if str_eq_ignore_ascii_case text name then Some (r.address, r.end - r.address) else range_named ranges texts name
range_named _ _ name = None
