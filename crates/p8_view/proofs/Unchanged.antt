-- Pins that do not change.
use Rattle.std.proofs.Common.{◌≡◌, ◌∙◌, refl, sym, ap, ℕ, Bool, true, false, ◌&&◌, nat_eq, List, [], ◌++◌}
use Rattle.std.proofs.lemmas.Bool.{eqb-true}
use Rattle.std.proofs.lemmas.List.{append-nil}
use Rattle.std.specs.List.{range_with_len}
use Rattle.p8_pins.specs.Levels.{is_high}
use Rattle.p8_view.specs.declared.drives.Drives.{Drives}
use Rattle.p8_view.specs.Drives.{differ, pin_text, pins_text}
use Rattle.p8_view.specs.View.{same_drives}
use Rattle.p8_view.proofs.Ranges.{flat_map_none}

first : (a b : Bool) → (a && b) ≡ true → a ≡ true
first true b e = refl
first false b e = e

second : (a b : Bool) → (a && b) ≡ true → b ≡ true
second true b e = e
second false b e = absurd (cc)

same : (b : Bool) → differ b b ≡ false
same true = refl
same false = refl

no_text : (d : Drives) (pin : ℕ) → pin_text d d pin ≡ []
no_text d pin = rw (same (is_high pin d.directions), same (is_high pin d.high)) refl

-- where the pins are the same none has a text
pub nothing_more : (before after : Drives) (out : List ℕ) → same_drives before after ≡ true → out ≡ out ++ pins_text before after
nothing_more before after out same =
    let directions : before.directions ≡ after.directions = eqb-true before.directions after.directions (first (nat_eq before.directions after.directions) (nat_eq before.high after.high) same) in
    let high : before.high ≡ after.high = eqb-true before.high after.high (second (nat_eq before.directions after.directions) (nat_eq before.high after.high) same) in
    let is : before ≡ after = λ i. record { directions = directions i; high = high i } in
    sym (append-nil out) ∙ ap (λ (xs : List ℕ). out ++ xs) (sym (flat_map_none (pin_text after after) (range_with_len 0 32) (no_text after))) ∙ ap (λ (d : Drives). out ++ pins_text d after) (sym is)
