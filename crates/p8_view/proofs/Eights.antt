-- What is kept of the eight cogs.
use Rattle.std.proofs.Common.{◌≡◌, ◌∙◌, ap, refl, ℕ, zero, suc, ◌<◌, List, map, get_or, arith, bit_and, bit_or}
use Rattle.std.proofs.lemmas.Nat.Bits.{same_from_bits, bit_at_or}
use lib.Bits.{or_zero_r}
use Rattle.p8_access.specs.declared.order.Turn.{Turn}
use Rattle.p8_access.specs.Worlds.{World}
use Rattle.p8_access.specs.Hub.{cogs}
use Rattle.p8_access.specs.Pins.{outa_of, dira_of, or_all, dira, outputs}
use Rattle.p8_hub.specs.Parts.{ors, driven}
use Rattle.p8_view.specs.declared.cogs.Cogs.{Cogs}
use Rattle.p8_view.specs.declared.drives.Drives.{Drives}
use Rattle.p8_view.specs.Drives.{drives_of}
use Rattle.p8_view.specs.Following.{AreParts}

-- the one of a cog
nth : {X : Type 0} (f : ℕ → X) (d : X) (n : ℕ) → n < 8 → get_or (map f cogs) n d ≡ f n
nth f d zero h = refl
nth f d (suc zero) h = refl
nth f d (suc (suc zero)) h = refl
nth f d (suc (suc (suc zero))) h = refl
nth f d (suc (suc (suc (suc zero)))) h = refl
nth f d (suc (suc (suc (suc (suc zero))))) h = refl
nth f d (suc (suc (suc (suc (suc (suc zero)))))) h = refl
nth f d (suc (suc (suc (suc (suc (suc (suc zero))))))) h = refl
nth f d (suc (suc (suc (suc (suc (suc (suc (suc n)))))))) h = absurd (omega (arith, h))

pub one_of : {X : Type 0} (f : ℕ → X) (xs : List X) (d : X) (n : ℕ) → xs ≡ map f cogs → n < 8 → get_or xs n d ≡ f n
one_of f xs d n e h = ap (λ (ys : List _). get_or ys n d) e ∙ nth f d n h

or_assoc : (a b c : ℕ) → bit_or (bit_or a b) c ≡ bit_or a (bit_or b c)
or_assoc a b c = same_from_bits _ _ (λ i. simp bit_at_or (omega arith))

-- the bits that some have, gathered from the first on or from the last on
ors_all : (f : ℕ → ℕ) → ors (map f cogs) ≡ or_all f cogs
ors_all f = simp (or_assoc, or_zero_r)

module _ (w : World) (past : List Turn) (c : Cogs) (are : AreParts w past c) where
  told_dira : ors c.dira ≡ dira past
  unfolding dira
  told_dira = ap ors are.dira ∙ ors_all (λ (n : ℕ). dira_of past n)

  told_outputs : ors (driven c.outa c.dira) ≡ outputs past
  unfolding outputs
  told_outputs =
      ap (λ (outa : List ℕ). ors (driven outa c.dira)) are.outa
      ∙ ap (λ (dira : List ℕ). ors (driven (map (λ (n : ℕ). outa_of past n) cogs) dira)) are.dira
      ∙ ors_all (λ (n : ℕ). bit_and (outa_of past n) (dira_of past n))

  pub told_drives : (directions high : ℕ) → directions ≡ ors c.dira → high ≡ ors (driven c.outa c.dira) → ◌≡◌ {A = Drives} (record { directions = directions; high = high }) (drives_of past)
  told_drives directions high d h = rw (d, h, told_dira, told_outputs) refl
