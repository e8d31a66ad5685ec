-- Decimal digits, two at a time, and the last four of a clock.
use Rattle.std.proofs.Common.{◌≡◌, ℕ, zero, suc, ◌+◌, ◌-◌, ◌*◌, ◌/◌, ◌%◌, ◌^◌, ◌<◌, ◌≤◌, Bool, true, ◌&&◌, T, eqb, eqb→eq, eq-zero-or-pos, List, [], ◌∷◌, ◌++◌, get_or, inl, inr, refl, sym, ap, ◌∙◌, arith, append_assoc}
use lib.Ieee.Fits.{and_l, and_r}
use Rattle.std.specs.Fmt.{decimal}
use Rattle.std.proofs.lemmas.Fmt.{decimal_step}
use Rattle.p8_report.specs.declared.clocks.TheConstants.{PAIRS}

abbrev pair : ℕ → List ℕ
pair n = (48 + n / 10) ∷ (48 + n % 10) ∷ []

abbrev are_pairs : ℕ → Bool
are_pairs zero = true
are_pairs (suc p) = (eqb (get_or PAIRS (2 * p) 0) (48 + p / 10) && eqb (get_or PAIRS (2 * p + 1) 0) (48 + p % 10)) && are_pairs p

below : (n p : ℕ) → T (are_pairs n) → p < n → (get_or PAIRS (2 * p) 0 ≡ 48 + p / 10) × (get_or PAIRS (2 * p + 1) 0 ≡ 48 + p % 10)
below zero p t h = absurd (omega arith)
below (suc n) p t h =
    elim (eq-zero-or-pos (n - p)) [
      | inl z ↦ let e : p ≡ n = omega arith in let a = and_l _ (are_pairs n) t in rw e (eqb→eq _ _ (and_l _ _ a), eqb→eq _ _ (and_r _ _ a))
      | inr g ↦ below n p (and_r _ (are_pairs n) t) (omega arith)
    ]

-- the digits that stand in the table are those of a number below 100
pub pair_at : (n : ℕ) → n < 100 → get_or PAIRS (2 * n) 0 ∷ get_or PAIRS (2 * n + 1) 0 ∷ [] ≡ pair n
pair_at n h =
    let p = below 100 n tt h in
    rw (p.0, p.1) refl

last_two : (n : ℕ) → 100 ≤ n → n < 2 ^ 64 → decimal n ≡ decimal (n / 100) ++ pair (n % 100)
last_two n lo hi =
    let a : n / 10 / 10 ≡ n / 100 = omega arith in
    let b : n / 10 % 10 ≡ n % 100 / 10 = omega arith in
    let c : n % 10 ≡ n % 100 % 10 = omega arith in
    rw (decimal_step n (omega arith) hi, decimal_step (n / 10) (omega arith) (omega arith), append_assoc, a, b, ← c)

-- the last four digits of a clock after those in front
pub last_four : (first last clock : ℕ) → first % 10000 ≡ 0 → 10000 ≤ first → last < 10000 → clock ≡ first + last → clock < 2 ^ 64 → decimal clock ≡ decimal (first / 10000) ++ (pair (last / 100) ++ pair (last % 100))
last_four first last clock whole some four sum fits =
    let a : clock / 100 / 100 ≡ first / 10000 = omega arith in
    let b : clock / 100 % 100 ≡ last / 100 = omega arith in
    let c : clock % 100 ≡ last % 100 = omega arith in
    rw (last_two clock (omega arith) fits, last_two (clock / 100) (omega arith) (omega arith), append_assoc, a, b, c) refl

-- a clock is written in three pieces
pub clock_text : (first last clock : ℕ) (before one two three : List ℕ) → first % 10000 ≡ 0 → 10000 ≤ first → last < 10000 → clock ≡ first + last → clock < 2 ^ 64 → one ≡ before ++ decimal (first / 10000) → two ≡ one ++ pair (last / 100) → three ≡ two ++ pair (last % 100) → three ≡ before ++ decimal clock
clock_text first last clock before one two three whole some four sum fits a b c =
    c
    ∙ ap (λ (xs : List ℕ). xs ++ pair (last % 100)) (b ∙ ap (λ (xs : List ℕ). xs ++ pair (last / 100)) a)
    ∙ append_assoc (before ++ decimal (first / 10000)) (pair (last / 100)) (pair (last % 100))
    ∙ append_assoc before (decimal (first / 10000)) (pair (last / 100) ++ pair (last % 100))
    ∙ ap (λ (xs : List ℕ). before ++ xs) (sym (last_four first last clock whole some four sum fits))
