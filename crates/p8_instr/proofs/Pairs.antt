-- The table of two hexadecimal digits for each byte.
use Rattle.std.proofs.Common.{◌≡◌, ℕ, zero, suc, ◌+◌, ◌-◌, ◌*◌, ◌/◌, ◌%◌, ◌<◌, Bool, true, ◌&&◌, T, eqb, eqb→eq, eq-zero-or-pos, get_or, [], ◌∷◌, inl, inr, refl, arith}
use lib.Ieee.Fits.{and_l, and_r}
use Rattle.p8_instr.specs.Numerals.{hex, glyph}
use Rattle.p8_instr.specs.declared.numerals.TheConstants.{PAIRS}

abbrev are_pairs : ℕ → Bool
are_pairs zero = true
are_pairs (suc p) = (eqb (get_or PAIRS (2 * p) 0) (glyph (p / 16)) && eqb (get_or PAIRS (2 * p + 1) 0) (glyph (p % 16))) && are_pairs p

below : (n p : ℕ) → T (are_pairs n) → p < n → (get_or PAIRS (2 * p) 0 ≡ glyph (p / 16)) × (get_or PAIRS (2 * p + 1) 0 ≡ glyph (p % 16))
below zero p t h = absurd (omega arith)
below (suc n) p t h =
    elim (eq-zero-or-pos (n - p)) [
      | inl z ↦ let e : p ≡ n = omega arith in let a = and_l _ (are_pairs n) t in rw e (eqb→eq _ _ (and_l _ _ a), eqb→eq _ _ (and_r _ _ a))
      | inr g ↦ below n p (and_r _ (are_pairs n) t) (omega arith)
    ]

-- the digits that stand in the table are the last two of a number
pub pair_at : (n : ℕ) → get_or PAIRS (2 * (n % 256)) 0 ∷ get_or PAIRS (2 * (n % 256) + 1) 0 ∷ [] ≡ hex 2 n
unfolding hex
pair_at n =
    let p = below 256 (n % 256) tt (omega arith) in
    let high : n % 256 / 16 ≡ n / 16 % 16 = omega arith in
    let low : n % 256 % 16 ≡ n % 16 = omega arith in
    rw (p.0, p.1, high, low) refl
