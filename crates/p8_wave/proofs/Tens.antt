-- How often ten divides a number.
use Rattle.std.proofs.Common.{◌≡◌, ◌≢◌, ◌∙◌, refl, sym, ap, ℕ, zero, suc, ◌+◌, ◌-◌, ◌*◌, ◌/◌, ◌%◌, ◌^◌, ◌<◌, ◌≤◌, arith, subst}
use Rattle.std.proofs.Math.Nat.{mul-div_cancel, pow-suc}
use Rattle.std.proofs.lemmas.Bool.Decides.{nat_tests}
use Rattle.p8_wave.specs.Scale.{tens, ticks_of}

-- it divides once more
more : (m n : ℕ) → n % 10 ≡ 0 → tens (suc m) n ≡ 1 + tens m (n / 10)
unfolding tens
more m n zero' = rw zero' refl

-- it doesn't divide
none : (m n : ℕ) → n % 10 ≢ 0 → tens m n ≡ 0
unfolding tens
none zero n not_zero = refl
none (suc m) n not_zero = grind (arith, nat_tests)

none_left : (n : ℕ) → tens 0 n ≡ 0
unfolding tens
none_left n = refl

positive : (k : ℕ) → 0 < 10 ^ k
positive zero = omega arith
positive (suc k) = let p = positive k in rw (pow-suc 10 k) (omega arith)

power_more : (k : ℕ) → 10 ^ (k + 1) ≡ 10 ^ k * 10
power_more k = let e : k + 1 ≡ suc k = omega arith in rw e (pow-suc 10 k)

module _ (period power left : ℕ) (most : power ≤ 15) (product : left * 10 ^ power ≡ period) (sofar : tens 15 period ≡ power + tens (15 - power) left) where
  -- one more power
  pub next_tens : power < 15 → left % 10 ≡ 0 → tens 15 period ≡ (power + 1) + tens (15 - (power + 1)) (left / 10)
  next_tens below divides =
      let e : 15 - power ≡ suc (15 - (power + 1)) = omega arith in
      let m = more (15 - (power + 1)) left divides in
      let s = subst (λ k. tens 15 period ≡ power + tens k left) e sofar in
      omega (arith, m, s)

  pub next_left : left % 10 ≡ 0 → left / 10 * 10 ^ (power + 1) ≡ period
  next_left divides =
      let e : left ≡ left / 10 * 10 = omega arith in
      let p = power_more power in
      rw p (let q : left / 10 * (10 ^ power * 10) ≡ left / 10 * 10 * 10 ^ power = grind arith in q ∙ ap (λ n. n * 10 ^ power) (sym e) ∙ product)

  -- what is left is as many units as the period is long
  counted : tens 15 period ≡ power → left ≡ ticks_of period
  counted e = sym (ap (λ k. period / 10 ^ k) e ∙ ap (λ n. n / 10 ^ power) (sym product) ∙ mul-div_cancel left (positive power))

  pub stopped : left % 10 ≢ 0 → tens 15 period ≡ power
  stopped not_zero = let z = none (15 - power) left not_zero in omega (arith, sofar, z)

  pub stopped_left : left % 10 ≢ 0 → left ≡ ticks_of period
  stopped_left not_zero = counted (stopped not_zero)

  pub ended : 15 ≤ power → tens 15 period ≡ power
  ended e =
      let z : 15 - power ≡ 0 = omega arith in
      let s = subst (λ k. tens 15 period ≡ power + tens k left) z sofar in
      let n = none_left left in omega (arith, s, n)

  pub ended_left : 15 ≤ power → left ≡ ticks_of period
  ended_left e = counted (ended e)
