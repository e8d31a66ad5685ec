-- Lists with an item for each of the eight cogs.
use Rattle.std.proofs.Common.{◌≡◌, refl, ℕ, Bool, map, arith, bit_or}
use Rattle.std.specs.List.{position_from, find}
use Rattle.std.proofs.lemmas.Nat.Bits.{same_from_bits, bit_at_or}
use lib.Bits.{or_zero_r}
use Rattle.p8_access.specs.Hub.{cogs}
use Rattle.p8_access.specs.Pins.{or_all}
use Rattle.p8_hub.specs.Parts.{ors}

-- the first that passes a test
pub first_one : {X : Type 0} (f : ℕ → X) (p : X → Bool) → position_from p 0 (map f cogs) ≡ find (λ (n : ℕ). p (f n)) cogs
first_one f p = refl

or_assoc : (a b c : ℕ) → bit_or (bit_or a b) c ≡ bit_or a (bit_or b c)
or_assoc a b c = same_from_bits _ _ (λ i. simp bit_at_or (omega arith))

-- the bits that some have, gathered from the first on or from the last on
pub ors_all : (f : ℕ → ℕ) → ors (map f cogs) ≡ or_all f cogs
ors_all f = simp (or_assoc, or_zero_r)
