-- A register of each of the eight cogs.
use Rattle.std.proofs.Common.{◌≡◌, ◌∙◌, ap, sym, refl, ℕ, zero, suc, ◌<◌, ◌≤◌, slice_index, arith, bit_or, bit_and, List}
use Rattle.std.proofs.lemmas.Nat.Bits.{same_from_bits, bit_at_or}
use lib.Bits.{or_zero_r}
use Rattle.p8_access.specs.declared.order.Turn.{Turn}
use Rattle.p8_access.specs.Hub.{cogs}
use Rattle.p8_access.specs.Pins.{or_all, outa_of, dira_of, dira, outputs, pins_with}
use Rattle.p8_pins.specs.Driving.{gathered, AreAfter}
use Rattle.p8_pins.specs.declared.registers.Registers.{Registers}

or_assoc : (a b c : ℕ) → bit_or (bit_or a b) c ≡ bit_or a (bit_or b c)
or_assoc a b c = same_from_bits _ _ (λ i. simp bit_at_or (omega arith))

-- the bits that some have, gathered from the first on or from the last on
gathered_all : (f : ℕ → ℕ) → gathered f 8 ≡ or_all f cogs
gathered_all f = simp (or_assoc, or_zero_r)

gathered_same : (f g : ℕ → ℕ) (k : ℕ) → k ≤ 8 → ((n : ℕ) → n < 8 → g n ≡ f n) → gathered f k ≡ gathered g k
gathered_same f g zero le same = refl
gathered_same f g (suc k) le same =
    ap (λ (x : ℕ). bit_or x (f k)) (gathered_same f g k (omega arith) same) ∙ ap (bit_or (gathered g k)) (sym (same k (omega arith)))

module _ (past : List Turn) (registers : Registers) (after : AreAfter past registers) where
  pub told_dira : gathered (λ (n : ℕ). slice_index registers.dira n) 8 ≡ dira past
  unfolding dira
  told_dira = gathered_same _ (dira_of past) 8 (omega arith) after.dira ∙ gathered_all (dira_of past)

  both : (n : ℕ) → n < 8 → bit_and (outa_of past n) (dira_of past n) ≡ bit_and (slice_index registers.outa n) (slice_index registers.dira n)
  both n h = ap (λ (x : ℕ). bit_and x (dira_of past n)) (after.outa n h) ∙ ap (bit_and (slice_index registers.outa n)) (after.dira n h)

  pub told_outputs : gathered (λ (n : ℕ). bit_and (slice_index registers.outa n) (slice_index registers.dira n)) 8 ≡ outputs past
  unfolding outputs
  told_outputs = gathered_same _ (λ (n : ℕ). bit_and (outa_of past n) (dira_of past n)) 8 (omega arith) both ∙ gathered_all (λ (n : ℕ). bit_and (outa_of past n) (dira_of past n))

-- two pasts that leave the same registers
module _ (a b : List Turn) (registers : Registers) (after_a : AreAfter a registers) (after_b : AreAfter b registers) (levels : ℕ) where
  pub same_pins : pins_with (dira a) (outputs a) levels ≡ pins_with (dira b) (outputs b) levels
  same_pins =
      ap (λ (d : ℕ). pins_with d (outputs a) levels) (sym (told_dira a registers after_a) ∙ told_dira b registers after_b)
      ∙ ap (λ (o : ℕ). pins_with (dira b) o levels) (sym (told_outputs a registers after_a) ∙ told_outputs b registers after_b)
