-- Which pins and which clocks of a run are shown, in words of the command line (this project's profile). A word is a list of bytes.
use Rattle.std.specs.Prelude.{ℕ, ◌+◌, ◌-◌, ◌^◌, ◌==◌, nat_le, bit_or, if◌then◌else◌, List, [], ◌∷◌, Option, Some, None, option_and_then, unwrap_or}
use Rattle.std.specs.Prelude.{take, drop, position}
use Rattle.std.specs.List.{slice_split}
use Rattle.p8_commands.specs.Numbers.{number_of, last_pin}

-- what stands before the first byte of a value and what stands after it, if there is one
abbrev pub cut_by : List ℕ → (place : Option ℕ) → List ℕ × Option (List ℕ)
cut_by text None = (text, None)
cut_by text (Some place) = (take place text, Some (drop (place + 1) text))

abbrev pub cut_at : (byte : ℕ) → List ℕ → List ℕ × Option (List ℕ)
cut_at byte text = cut_by text (position (λ code. code == byte) text)

-- ---- pins

-- pins as a mask, which has bit p for pin p: those from one to another
abbrev pub mask_between : (first last : ℕ) → ℕ
mask_between first last = 2 ^ (last + 1) - 2 ^ first

abbrev pub mask_by : Option ℕ → Option ℕ → Option ℕ
mask_by (Some first) (Some last) = if nat_le first last then Some (mask_between first last) else None
mask_by _ _ = None

-- `N`, a pin, or `N-M`, the pins from one to another
abbrev pub mask_of_part : List ℕ → Option ℕ
mask_of_part text =
    let cut = cut_at 45 text in mask_by (number_of last_pin cut.0) (number_of last_pin (unwrap_or cut.1 cut.0))

-- more of them
abbrev pub mask_with : ℕ → List (List ℕ) → Option ℕ
mask_with mask [] = Some mask
mask_with mask (part ∷ parts) = option_and_then (λ more. mask_with (bit_or mask more) parts) (mask_of_part part)

-- all of them, divided by commas
abbrev pub mask_of : List ℕ → Option ℕ
mask_of text = mask_with 0 (slice_split (λ code. code == 44) text)

-- ---- clocks

-- the clocks from one on and before another one
abbrev pub span_by : Option ℕ → Option ℕ → Option (ℕ × ℕ)
span_by (Some from) (Some to) = if nat_le from to then Some (from, to) else None
span_by _ _ = None

-- `FROM:TO`, of a run with so many clocks
abbrev pub span_in : (clocks : ℕ) → List ℕ × Option (List ℕ) → Option (ℕ × ℕ)
span_in clocks (from, Some to) = span_by (number_of clocks from) (number_of clocks to)
span_in clocks (from, None) = None

-- all of them where nothing is said
abbrev pub span_of : (clocks : ℕ) → Option (List ℕ) → Option (ℕ × ℕ)
span_of clocks None = Some (0, clocks)
span_of clocks (Some text) = span_in clocks (cut_at 58 text)
