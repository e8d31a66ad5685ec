-- The frames of all falling edges, by the changes of the pins.
use Rattle.std.proofs.Common.{◌≡◌, ◌∙◌, ap, sym, refl, ℕ, zero, suc, ◌+◌, ◌<◌, ◌≤◌, ◌&&◌, inl, inr, Bool, true, false, not, nat_lt, if◌then◌else◌, List, [], ◌∷◌, filter, arith}
use Rattle.std.specs.List.{range_with_len}
use Rattle.std.proofs.lemmas.Bool.{cases_lt}
use Rattle.std.proofs.lemmas.Bool.Decides.{nat_tests}
use Rattle.p8_access.specs.Worlds.{Line, levels_after}
use Rattle.p8_pins.specs.Levels.{is_high}
use Rattle.p8_pins.specs.LevelChanges.{RiseFrom, Ahead}
use Rattle.p8_pins.proofs.Passing.{passes, waits, rise-from}
use Rattle.p8_serial.specs.Serial.{stop_of, frames, falls_at, falling_edges}
use Rattle.p8_serial.specs.Receiving.{falls, falls_in, IsReceiving}

if-lt : {A : Type 0} (a b : ℕ) (x y : A) → a < b → (if nat_lt a b then x else y) ≡ x
if-lt a b x y h = grind (arith, nat_tests)

if-le : {A : Type 0} (a b : ℕ) (x y : A) → b ≤ a → (if nat_lt a b then x else y) ≡ y
if-le a b x y h = grind (arith, nat_tests)

module _ (bits end : ℕ) where
  -- an edge that isn't later than the look at a stop bit begins no frame
  pub skips : (after edge : ℕ) (edges : List ℕ) → edge ≤ after → frames bits end after (edge ∷ edges) ≡ frames bits end after edges
  skips after edge edges h = if-le after edge _ (frames bits end after edges) h

  pub skips-if : (b : Bool) (after edge : ℕ) (edges : List ℕ) → edge ≤ after → frames bits end after (if b then edge ∷ edges else edges) ≡ frames bits end after edges
  skips-if true after edge edges h = skips after edge edges h
  skips-if false after edge edges h = refl

  pub begins : (after edge : ℕ) (edges : List ℕ) → after < edge → stop_of bits edge < end → frames bits end after (edge ∷ edges) ≡ edge ∷ frames bits end (stop_of bits edge) edges
  begins after edge edges later counts = if-lt after edge _ (frames bits end after edges) later ∙ if-lt (stop_of bits edge) end _ [] counts

  pub begins-none : (after edge : ℕ) (edges : List ℕ) → after < edge → end ≤ stop_of bits edge → frames bits end after (edge ∷ edges) ≡ []
  begins-none after edge edges later counts = if-lt after edge _ (frames bits end after edges) later ∙ if-le (stop_of bits edge) end _ [] counts

  -- lists of edges with the same frames, after any clock
  abbrev AreAlike : List ℕ → List ℕ → Type 0
  AreAlike one two = (after : ℕ) → frames bits end after one ≡ frames bits end after two

  alike-more : (edge : ℕ) (one two : List ℕ) → AreAlike one two → AreAlike (edge ∷ one) (edge ∷ two)
  alike-more edge one two same after = elim (cases_lt after edge) [
    | inl later ↦ elim (cases_lt (stop_of bits edge) end) [
      | inl counts ↦ begins after edge one later counts ∙ ap (λ (s : List ℕ). edge ∷ s) (same (stop_of bits edge)) ∙ sym (begins after edge two later counts)
      | inr beyond ↦ begins-none after edge one later beyond ∙ sym (begins-none after edge two later beyond)
    ]
    | inr early ↦ skips after edge one early ∙ same after ∙ sym (skips after edge two early)
  ]

  alike-if : (b : Bool) (edge : ℕ) (one two : List ℕ) → AreAlike one two → AreAlike (if b then edge ∷ one else one) (if b then edge ∷ two else two)
  alike-if true edge one two same = alike-more edge one two same
  alike-if false edge one two same = same

  -- edges from the end on have no frame that counts
  none-counts : (pin from : ℕ) (high : Bool) (lines : List Line) → end ≤ from → RiseFrom from lines → (after : ℕ) → frames bits end after (falls pin high lines) ≡ []
  none-counts pin from high [] le rise after = refl
  none-counts pin from high (line ∷ lines) le rise after =
      none-if (high && not (is_high pin line.levels)) (falls pin (is_high pin line.levels) lines) (λ a. none-counts pin (line.clock + 1) (is_high pin line.levels) lines (omega (arith, rise.0)) rise.1 a)
    where
      none-if : (b : Bool) (edges : List ℕ) → ((a : ℕ) → frames bits end a edges ≡ []) → frames bits end after (if b then line.clock ∷ edges else edges) ≡ []
      none-if false edges none = none after
      none-if true edges none = elim (cases_lt after line.clock) [
        | inl later ↦ begins-none after line.clock edges later (omega (arith, rise.0))
        | inr early ↦ skips after line.clock edges early ∙ none after
      ]

  module _ (whole : ℕ → Bool) (pin : ℕ) where
    -- before the next change the pin doesn't fall
    keeps : (high now : Bool) → now ≡ high → (high && not now) ≡ false
    keeps true now same = ap not same
    keeps false now same = refl

    first-clock : (f n : ℕ) → filter (falls_at whole) (range_with_len (suc f) (suc n)) ≡ (if falls_at whole (suc f) then suc f ∷ filter (falls_at whole) (range_with_len (suc (suc f)) n) else filter (falls_at whole) (range_with_len (suc (suc f)) n))
    first-clock f n =
        ap (λ (c : ℕ). if falls_at whole (suc f) then suc f ∷ filter (falls_at whole) (range_with_len c n) else filter (falls_at whole) (range_with_len c n)) (omega arith)

    passes-clock : (f n : ℕ) → falls_at whole (suc f) ≡ false → filter (falls_at whole) (range_with_len (suc f) (suc n)) ≡ filter (falls_at whole) (range_with_len (suc (suc f)) n)
    passes-clock f n none = first-clock f n ∙ ap (λ (b : Bool). if b then suc f ∷ filter (falls_at whole) (range_with_len (suc (suc f)) n) else filter (falls_at whole) (range_with_len (suc (suc f)) n)) none

    -- what the pin is from a clock on
    abbrev Is : ℕ → ℕ → List Line → Type 0
    Is f pins lines = (t : ℕ) → f ≤ t → is_high pin (levels_after pins lines t) ≡ whole t

    is-now : (f pins : ℕ) (lines : List Line) → RiseFrom (suc f) lines → Is f pins lines → whole f ≡ is_high pin pins
    is-now f pins [] rise is = sym (is f (omega arith))
    is-now f pins (line ∷ lines) rise is = sym (is f (omega arith)) ∙ ap (is_high pin) (waits pins f line lines (omega (arith, rise.0)))

    alike : (n f pins : ℕ) (lines : List Line) → RiseFrom (suc f) lines → Is f pins lines → end ≤ suc f + n → AreAlike (filter (falls_at whole) (range_with_len (suc f) n)) (falls pin (is_high pin pins) lines)
    alike zero f pins lines rise is le after = sym (none-counts pin (suc f) (is_high pin pins) lines (omega (arith, le)) rise after)
    alike (suc n) f pins [] rise is le after =
        ap (frames bits end after) (passes-clock f n (keeps (whole f) (whole (suc f)) (sym (is (suc f) (omega arith)) ∙ is f (omega arith))))
        ∙ alike n (suc f) pins [] tt (λ t le. is t (omega arith)) (omega (arith, le)) after
    alike (suc n) f pins (line ∷ lines) rise is le after = elim (cases_lt (suc f) line.clock) [
      | inl later ↦
          ap (frames bits end after) (passes-clock f n (keeps (whole f) (whole (suc f)) (sym (is (suc f) (omega arith)) ∙ ap (is_high pin) (waits pins (suc f) line lines later) ∙ sym (is-now f pins (line ∷ lines) rise is))))
          ∙ alike n (suc f) pins (line ∷ lines) (omega (arith, later), rise.1) (λ t le. is t (omega arith)) (omega (arith, le)) after
      | inr here ↦
          let same : line.clock ≡ suc f = omega (arith, here, rise.0) in
          let on : Is (suc f) line.levels lines = λ t h. ap (is_high pin) (sym (passes pins t line lines (omega (arith, h, same)))) ∙ is t (omega (arith, h)) in
          let rises : RiseFrom (suc (suc f)) lines = rise-from (suc (suc f)) (line.clock + 1) lines (omega (arith, same)) rise.1 in
          let now : whole (suc f) ≡ is_high pin line.levels = is-now (suc f) line.levels lines rises on in
          let before : whole f ≡ is_high pin pins = is-now f pins (line ∷ lines) rise is in
          let fall : falls_at whole (suc f) ≡ (is_high pin pins && not (is_high pin line.levels)) = ap (λ (b : Bool). b && not (whole (suc f))) before ∙ ap (λ (b : Bool). is_high pin pins && not b) now in
          ap (frames bits end after) (first-clock f n)
          ∙ ap (λ (b : Bool). frames bits end after (if b then suc f ∷ filter (falls_at whole) (range_with_len (suc (suc f)) n) else filter (falls_at whole) (range_with_len (suc (suc f)) n))) fall
          ∙ alike-if (is_high pin pins && not (is_high pin line.levels)) (suc f) _ (falls pin (is_high pin line.levels) lines) (alike n (suc f) line.levels lines rises on (omega (arith, le))) after
          ∙ ap (λ (c : ℕ). frames bits end after (if is_high pin pins && not (is_high pin line.levels) then c ∷ falls pin (is_high pin line.levels) lines else falls pin (is_high pin line.levels) lines)) (sym same)
    ]

-- the frames of all falling edges of a pin below an end
pub all-edges : (bits end : ℕ) (whole : ℕ → Bool) (pin : ℕ) (ahead : Ahead) → IsReceiving whole pin 0 ahead → frames bits end 0 (falling_edges whole end) ≡ frames bits end 0 (falls_in pin ahead)
all-edges bits zero whole pin ahead r = sym (none-counts bits 0 pin 1 (is_high pin ahead.pins) ahead.changes (omega arith) r.rise 0)
all-edges bits (suc n) whole pin ahead r = alike bits (suc n) whole pin n 0 ahead.pins ahead.changes r.rise r.levels (omega arith) 0
