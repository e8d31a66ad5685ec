-- A number is the greatest that passes a test where it passes and no greater one does.
use Rattle.std.proofs.Common.{◌≡◌, inl, inr, ℕ, zero, suc, ◌+◌, ◌-◌, ◌*◌, ◌/◌, ◌%◌, ◌^◌, ◌<◌, ◌≤◌, Bool, true, false, nat_le, ◌==◌, refl, sym, ◌∙◌, ap, arith, lit<}
use Rattle.std.specs.Int.Count.{count_leading_zeros, leading_of_zero}
use Rattle.std.proofs.lemmas.Bool.{cases_lt}
use Rattle.std.proofs.lemmas.Bool.Decides.{nat_tests}
use Rattle.std.proofs.lemmas.Nat.{leading_top, pow_pos}
use Rattle.std.proofs.Math.Nat.{div-eq_of_lt, div-eq_of_lt-le, pow-le-pow_right, pow-suc, zero-lt-suc}
use Rattle.p8_words.specs.Words.{greatest, square_root, highest_one}

pub greatest-is : (test : ℕ → Bool) (n m : ℕ) → m ≤ n → (0 < m → test m ≡ true) → ((k : ℕ) → m < k → k ≤ n → test k ≡ false) → greatest test n ≡ m
unfolding greatest
greatest-is test zero m within passes above = omega arith
greatest-is test (suc n) m within passes above =
    elim (cases_lt m (suc n)) [
      | inl below ↦ rw (above (suc n) below (omega arith)) (greatest-is test n m (omega arith) passes (λ k h w. above k h (omega arith)))
      | inr here ↦
          let e : m ≡ suc n = omega arith in
          let p : test (suc n) ≡ true = ap test (sym e) ∙ passes (omega arith) in
          rw p (sym e)
    ]

-- ---- the square root

square-lt : (a r k : ℕ) → a < (r + 1) * (r + 1) → r < k → a < k * k
square-lt a r k above more = grind arith

self-le-square : (r : ℕ) → r ≤ r * r
self-le-square r = grind arith

pub square_root-is : (a r : ℕ) → r * r ≤ a → a < (r + 1) * (r + 1) → square_root a ≡ r
square_root-is a r fits above =
    greatest-is (λ k. nat_le (k * k) a) a r (omega (arith, self-le-square r)) (λ _. grind (arith, nat_tests))
    (λ k more w. let h : a < k * k = square-lt a r k above more in grind (arith, nat_tests))

-- ---- the highest 1

one-at : (a j : ℕ) → 2 ^ j ≤ a → a < 2 ^ suc j → a / 2 ^ j ≡ 1
one-at a j low high = div-eq_of_lt-le {k = 1} (2 ^ j) (omega arith) (omega (arith, pow-suc 2 j))

pub highest_one-is : (a j : ℕ) → j < 32 → 2 ^ j ≤ a → a < 2 ^ suc j → highest_one a ≡ suc j
highest_one-is a j within low high =
    greatest-is (λ place. a / 2 ^ (place - 1) % 2 == 1) 32 (suc j) (omega arith)
    (λ _. let same : suc j - 1 ≡ j = omega arith in
    ap (λ i. a / 2 ^ i % 2 == 1) same ∙ ap (λ q. q % 2 == 1) (one-at a j low high))
    (λ k more w.
    let p : 2 ^ suc j ≤ 2 ^ (k - 1) = pow-le-pow_right (zero-lt-suc 1) (omega arith) in
    let z : a / 2 ^ (k - 1) ≡ 0 = div-eq_of_lt (omega arith) in
    ap (λ q. q % 2 == 1) z)

pub highest_one-zero : highest_one 0 ≡ 0
highest_one-zero =
    greatest-is (λ place. 0 / 2 ^ (place - 1) % 2 == 1) 32 0 (omega arith) (λ h. absurd (omega arith))
    (λ k more w. ap (λ q. q % 2 == 1) (div-eq_of_lt (pow_pos (k - 1))))

-- what the count of leading zeros says of the place of the highest 1
pub record IsPlace (a place : ℕ) : Type 0 where
  pub value : place ≡ highest_one a
  pub none : (place ≡ 0 → a ≡ 0) × (a ≡ 0 → place ≡ 0)
  pub above : a < 2 ^ place
  pub below : 0 < a → 2 ^ (place - 1) ≤ a

IsPlace-top : (a z : ℕ) → 0 < a → (j : ℕ) × (z + suc j ≡ 32) × (2 ^ j ≤ a) × (a < 2 ^ suc j) → IsPlace a (32 - z)
IsPlace-top a z some (j, e, low, high) =
    let place : 32 - z ≡ suc j = omega arith in
    rw place (record {
      value = sym (highest_one-is a j (omega arith) low high);
      none = (λ h. absurd (omega arith), λ h. absurd (omega arith));
      above = high;
      below = λ _. let same : suc j - 1 ≡ j = omega arith in rw same low;
    })

pub IsPlace-leading : (a : ℕ) → a < 2 ^ 32 → IsPlace a (32 - count_leading_zeros 32 a)
IsPlace-leading zero fits =
    let place : 32 - count_leading_zeros 32 0 ≡ 0 = omega (arith, leading_of_zero 32) in
    rw place (record {
      value = sym highest_one-zero;
      none = (λ _. refl, λ _. refl);
      above = lit< tt;
      below = λ h. absurd (omega arith);
    })
IsPlace-leading (suc a) fits = IsPlace-top (suc a) _ (zero-lt-suc a) (leading_top 32 (suc a) (zero-lt-suc a) fits)
