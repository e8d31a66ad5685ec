-- The pins that eight cogs drive.
use Rattle.std.proofs.Common.{◌≡◌, ◌∙◌, ap, refl, ℕ, List, map, arith, bit_and, bit_or}
use Rattle.std.proofs.lemmas.Nat.Bits.{same_from_bits, bit_at_or}
use lib.Bits.{or_zero_r}
use Rattle.p8_access.specs.declared.order.Turn.{Turn}
use Rattle.p8_access.specs.Worlds.{World}
use Rattle.p8_access.specs.Hub.{cogs}
use Rattle.p8_access.specs.Pins.{outa_of, dira_of, or_all, dira, outputs, pins_with}
use Rattle.p8_hub.specs.Parts.{ors, driven}
use Rattle.p8_wave.specs.declared.signals.Signals.{Signals}
use Rattle.p8_wave.specs.Following.{AreSignals}

or_assoc : (a b c : ℕ) → bit_or (bit_or a b) c ≡ bit_or a (bit_or b c)
or_assoc a b c = same_from_bits _ _ (λ i. simp bit_at_or (omega arith))

-- the bits that some have, gathered from the first on or from the last on
ors_all : (f : ℕ → ℕ) → ors (map f cogs) ≡ or_all f cogs
ors_all f = simp (or_assoc, or_zero_r)

module _ (w : World) (past : List Turn) (s : Signals) (signals : AreSignals w past s) where
  told_dira : ors s.dira ≡ dira past
  unfolding dira
  told_dira = ap ors signals.dira ∙ ors_all (λ (n : ℕ). dira_of past n)

  told_outputs : ors (driven s.outa s.dira) ≡ outputs past
  unfolding outputs
  told_outputs =
      ap (λ (outa : List ℕ). ors (driven outa s.dira)) signals.outa
      ∙ ap (λ (dira : List ℕ). ors (driven (map (λ (n : ℕ). outa_of past n) cogs) dira)) signals.dira
      ∙ ors_all (λ (n : ℕ). bit_and (outa_of past n) (dira_of past n))

  -- all pins
  pub told_pins : (levels : ℕ) → pins_with (ors s.dira) (ors (driven s.outa s.dira)) levels ≡ pins_with (dira past) (outputs past) levels
  told_pins levels = rw (told_dira, told_outputs) refl
