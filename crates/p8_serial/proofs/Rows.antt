-- Rows of bits as lines of a script.
use Rattle.std.proofs.Common.{◌≡◌, ◌∙◌, ap, sym, refl, subst, ℕ, zero, suc, ◌+◌, ◌*◌, ◌==◌, ◌<◌, ◌≤◌, Bool, true, false, List, [], ◌∷◌, ◌++◌, Some, flat_map, append_assoc, arith}
use Rattle.std.specs.Prelude.{slice_get}
use Rattle.std.proofs.lemmas.List.Concat.{flat_map-append}
use Rattle.std.proofs.lemmas.Nat.Bits.{bit_at-zero, bit_at-pow_same}
use Rattle.p8_access.specs.Worlds.{Line, levels_after}
use Rattle.p8_pins.specs.Levels.{is_high}
use Rattle.p8_pins.specs.LevelChanges.{RiseFrom}
use Rattle.p8_pins.proofs.Passing.{passes, waits, rise-from}
use Rattle.p8_serial.specs.Typed.{frame_of, line_at, line_text, lines_from}

some-is : (a b : Bool) → Some a ≡ Some b → a ≡ b
some-is a b e = (cc)

-- the level after a row, and the clock
unfoldable pub last_of : Bool → List Bool → Bool
last_of before [] = before
last_of before (bit ∷ row) = last_of bit row

unfoldable pub clock_after : ℕ → ℕ → List Bool → ℕ
clock_after bits clock [] = clock
clock_after bits clock (bit ∷ row) = clock_after bits (clock + bits) row

module _ (pin bits : ℕ) where
  rows : (clock : ℕ) (before : Bool) (row rest : List Bool) → lines_from pin bits clock before (row ++ rest) ≡ lines_from pin bits clock before row ++ lines_from pin bits (clock_after bits clock row) (last_of before row) rest
  unfolding last_of clock_after
  rows clock before [] rest = refl
  rows clock true (true ∷ row) rest = rows (clock + bits) true row rest
  rows clock false (false ∷ row) rest = rows (clock + bits) false row rest
  rows clock true (false ∷ row) rest = ap (λ (lines : List Line). line_at pin clock false ∷ lines) (rows (clock + bits) false row rest)
  rows clock false (true ∷ row) rest = ap (λ (lines : List Line). line_at pin clock true ∷ lines) (rows (clock + bits) true row rest)

  frame-clock : (clock byte : ℕ) → clock_after bits clock (frame_of byte) ≡ clock + 10 * bits
  unfolding frame_of clock_after
  frame-clock clock byte = omega arith

  frame-last : (byte : ℕ) → last_of true (frame_of byte) ≡ true
  unfolding frame_of last_of
  frame-last byte = refl

  pub frame-rows : (clock byte : ℕ) (rest : List Bool) → lines_from pin bits clock true (frame_of byte ++ rest) ≡ lines_from pin bits clock true (frame_of byte) ++ lines_from pin bits (clock + 10 * bits) true rest
  frame-rows clock byte rest =
      rows clock true (frame_of byte) rest
      ∙ ap (λ (c : ℕ). lines_from pin bits clock true (frame_of byte) ++ lines_from pin bits c (last_of true (frame_of byte)) rest) (frame-clock clock byte)
      ∙ ap (λ (b : Bool). lines_from pin bits clock true (frame_of byte) ++ lines_from pin bits (clock + 10 * bits) b rest) (frame-last byte)

  -- the frame of one more byte, in print
  pub one-byte : (clock next byte : ℕ) (bytes rest : List ℕ) (row : List Bool) (old new all : List ℕ) → bytes ≡ byte ∷ rest → row ≡ frame_of byte → new ≡ old ++ flat_map line_text (lines_from pin bits clock true row)
      → old ++ flat_map line_text (lines_from pin bits clock true (flat_map frame_of bytes)) ≡ all → next ≡ clock + 10 * bits
      → new ++ flat_map line_text (lines_from pin bits next true (flat_map frame_of rest)) ≡ all
  one-byte clock next byte bytes rest row old new all parts is more so_far at =
      let first = lines_from pin bits clock true (frame_of byte) in
      let later = lines_from pin bits (clock + 10 * bits) true (flat_map frame_of rest) in
      ap (λ (out : List ℕ). out ++ flat_map line_text (lines_from pin bits next true (flat_map frame_of rest))) (more ∙ ap (λ (r : List Bool). old ++ flat_map line_text (lines_from pin bits clock true r)) is)
      ∙ ap (λ (c : ℕ). (old ++ flat_map line_text first) ++ flat_map line_text (lines_from pin bits c true (flat_map frame_of rest))) at
      ∙ append_assoc old (flat_map line_text first) (flat_map line_text later)
      ∙ ap (λ (t : List ℕ). old ++ t) (sym (flat_map-append line_text first later) ∙ ap (flat_map line_text) (sym (frame-rows clock byte (flat_map frame_of rest))))
      ∙ ap (λ (bs : List ℕ). old ++ flat_map line_text (lines_from pin bits clock true (flat_map frame_of bs))) (sym parts)
      ∙ so_far

  -- the pin's level by the levels of a line
  pub high-is : (high : Bool) → is_high pin (line_at pin 0 high).levels ≡ high
  unfolding is_high
  high-is true = ap (λ (b : ℕ). b == 1) (bit_at-pow_same pin)
  high-is false = ap (λ (b : ℕ). b == 1) (bit_at-zero pin)

  -- lines of a row rise
  pub row-rise : (clock : ℕ) (before : Bool) (row : List Bool) → 1 ≤ bits → RiseFrom clock (lines_from pin bits clock before row)
  row-rise clock before [] some = tt
  row-rise clock true (true ∷ row) some = rise-from clock (clock + bits) (lines_from pin bits (clock + bits) true row) (omega arith) (row-rise (clock + bits) true row some)
  row-rise clock false (false ∷ row) some = rise-from clock (clock + bits) (lines_from pin bits (clock + bits) false row) (omega arith) (row-rise (clock + bits) false row some)
  row-rise clock true (false ∷ row) some = (omega arith, rise-from (clock + 1) (clock + bits) (lines_from pin bits (clock + bits) false row) (omega (arith, some)) (row-rise (clock + bits) false row some))
  row-rise clock false (true ∷ row) some = (omega arith, rise-from (clock + 1) (clock + bits) (lines_from pin bits (clock + bits) true row) (omega (arith, some)) (row-rise (clock + bits) true row some))

  -- the levels of a row, from its first clock on
  abbrev pub told : (clock : ℕ) (before : Bool) (row : List Bool) (t : ℕ) → ℕ
  told clock before row t = levels_after (line_at pin 0 before).levels (lines_from pin bits clock before row) t

  told-on : (clock t : ℕ) (before bit : Bool) (row : List Bool) → clock ≤ t → told clock before (bit ∷ row) t ≡ told (clock + bits) bit row t
  told-on clock t true true row le = refl
  told-on clock t false false row le = refl
  told-on clock t true false row le = passes (line_at pin 0 true).levels t (line_at pin clock false) (lines_from pin bits (clock + bits) false row) le
  told-on clock t false true row le = passes (line_at pin 0 false).levels t (line_at pin clock true) (lines_from pin bits (clock + bits) true row) le

  told-before : (clock t : ℕ) (before : Bool) (row : List Bool) → t < clock → told clock before row t ≡ (line_at pin 0 before).levels
  told-before clock t before [] less = refl
  told-before clock t true (true ∷ row) less = told-before (clock + bits) t true row (omega (arith, less))
  told-before clock t false (false ∷ row) less = told-before (clock + bits) t false row (omega (arith, less))
  told-before clock t true (false ∷ row) less = waits (line_at pin 0 true).levels t (line_at pin clock false) (lines_from pin bits (clock + bits) false row) less
  told-before clock t false (true ∷ row) less = waits (line_at pin 0 false).levels t (line_at pin clock true) (lines_from pin bits (clock + bits) true row) less

  -- from a clock on a pin is as a row tells
  pub record Sends (whole : ℕ → Bool) (clock : ℕ) (before : Bool) (row : List Bool) : Type 0 where
    pub is : (t : ℕ) → clock ≤ t → whole t ≡ is_high pin (told clock before row t)

  module _ (whole : ℕ → Bool) where
    pub sends-on : (clock : ℕ) (before bit : Bool) (row : List Bool) → Sends whole clock before (bit ∷ row) → Sends whole (clock + bits) bit row
    sends-on clock before bit row s = record { is = λ t le. s.is t (omega (arith, le)) ∙ ap (is_high pin) (told-on clock t before bit row (omega (arith, le))) }

    sends-bit : (clock : ℕ) (before bit : Bool) (row : List Bool) → Sends whole clock before (bit ∷ row) → (t : ℕ) → clock ≤ t → t < clock + bits → whole t ≡ bit
    sends-bit clock before bit row s t le less =
        s.is t le ∙ ap (is_high pin) (told-on clock t before bit row le ∙ told-before (clock + bits) t bit row less) ∙ high-is bit

    pub sends-at : (row : List Bool) (clock j t : ℕ) (before bit : Bool) → Sends whole clock before row → slice_get row j ≡ Some bit → clock + j * bits ≤ t → t < clock + j * bits + bits → whole t ≡ bit
    sends-at [] clock j t before bit s at le less = (cc)
    sends-at (first ∷ row) clock zero t before bit s at le less = sends-bit clock before first row s t (omega (arith, le)) (omega (arith, less)) ∙ some-is first bit at
    sends-at (first ∷ row) clock (suc j) t before bit s at le less =
        sends-at row (clock + bits) j t first bit (sends-on clock before first row s) at (omega (arith, le)) (omega (arith, less))

    pub sends-rest : (row : List Bool) (clock : ℕ) (before : Bool) (rest : List Bool) → Sends whole clock before (row ++ rest) → Sends whole (clock_after bits clock row) (last_of before row) rest
    unfolding last_of clock_after
    sends-rest [] clock before rest s = s
    sends-rest (bit ∷ row) clock before rest s = sends-rest row (clock + bits) bit rest (sends-on clock before bit (row ++ rest) s)

    pub sends-next : (clock byte : ℕ) (rest : List Bool) → Sends whole clock true (frame_of byte ++ rest) → Sends whole (clock + 10 * bits) true rest
    sends-next clock byte rest s =
        subst (λ (c : ℕ). Sends whole c true rest) (frame-clock clock byte)
        (subst (λ (b : Bool). Sends whole (clock_after bits clock (frame_of byte)) b rest) (frame-last byte) (sends-rest (frame_of byte) clock true rest s))
