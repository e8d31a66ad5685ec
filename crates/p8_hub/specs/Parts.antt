-- internal
-- The parts of a hub, without their history.
use Rattle.std.specs.Prelude.{ℕ, ◌+◌, ◌*◌, ◌^◌, List, Option, Some, None, slice_index, slice_set, fold, map, bit_and, bit_or}
use Rattle.std.specs.List.{zip}
use Rattle.p8_access.specs.declared.kinds.Width.{Width}
use Rattle.p8_access.specs.declared.kinds.Width.TheVariants.{Byte, Word, Long}

-- the number in the bytes from an address on, the lowest first
abbrev pub number_in : List ℕ → Width → ℕ → ℕ
number_in bytes Byte a = slice_index bytes a
number_in bytes Word a = slice_index bytes a + 256 * slice_index bytes (a + 1)
number_in bytes Long a =
    slice_index bytes a + 256 * slice_index bytes (a + 1) + 256 ^ 2 * slice_index bytes (a + 2) + 256 ^ 3 * slice_index bytes (a + 3)

-- a list with this item at the place, where there is one
abbrev pub set_where : {A : Type 0} → List A → Option ℕ → A → List A
set_where xs None x = xs
set_where xs (Some n) x = slice_set xs n x

-- the target, or where there is none this
abbrev pub target_or : Option ℕ → Option ℕ → Option ℕ
target_or None other = other
target_or (Some target) other = Some target

-- the bits that some of these have
abbrev pub ors : List ℕ → ℕ
ors xs = fold (λ (all x : ℕ). bit_or all x) 0 xs

-- what each cog with these outputs and directions drives high
abbrev pub driven : List ℕ → List ℕ → List ℕ
driven outa dira = map (λ (both : ℕ × ℕ). bit_and both.0 both.1) (zip outa dira)
