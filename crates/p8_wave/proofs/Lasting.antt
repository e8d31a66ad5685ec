-- The times below a picture: how exact they are, and how many characters they have.
use Rattle.std.proofs.Common.{◌≡◌, ℕ, ◌+◌, ◌-◌, ◌*◌, ◌/◌, ◌^◌, ◌<◌, ◌≤◌, inl, inr, true, false, nat_lt, ◌++◌, codes, length, length-append, arith}
use Rattle.std.specs.Fmt.{decimal}
use Rattle.std.proofs.lemmas.Bool.{cases_lt}
use Rattle.std.proofs.lemmas.Bool.Decides.{nat_tests}
use Rattle.std.proofs.lemmas.Fmt.{length-decimal-le}
use Rattle.std.proofs.lemmas.Nat.{mul-le, mod_below}
use native.Mathlib.Nat.{div-add-mod'}
use Rattle.p8_wave.specs.declared.axes.Axis.TheVariants.{Clocks, Times}
use Rattle.p8_wave.specs.declared.axes.TimeUnit.{TimeUnit}
use Rattle.p8_wave.specs.declared.axes.TimeUnit.TheVariants.{Microseconds, Milliseconds}
use Rattle.p8_wave.specs.Axes.{text_at, thousandths_of, thousandths_text, three_digits, time_at, unit_for}

-- rounded down
rounded : (n f : ℕ) → 0 < f → (n / f * f ≤ n) × (n < (n / f + 1) * f)
rounded n f some =
    let more : (n / f + 1) * f ≡ n / f * f + f = grind arith in
    (omega (arith, div-add-mod' n f), omega (arith, div-add-mod' n f, mod_below n f some, more))

pub exact-times : (frequency clock : ℕ) (unit : TimeUnit) → 0 < frequency → (time_at frequency unit clock * frequency ≤ clock * thousandths_of unit) × (clock * thousandths_of unit < (time_at frequency unit clock + 1) * frequency)
exact-times frequency clock unit some = rounded (clock * thousandths_of unit) frequency some

-- a clock
pub clock-long : (clock : ℕ) → clock < 4000000000 → length (text_at Clocks clock) ≤ 10
clock-long clock early = length-decimal-le 10 clock (omega arith) (omega (arith, early)) (omega (arith, early))

-- so many thousandths
thousandths-long : (digits n : ℕ) → 0 < digits → n / 1000 < 10 ^ digits → n / 1000 < 2 ^ 64 → length (thousandths_text n) ≤ digits + 4
thousandths-long digits n some few small =
    omega (arith, length-append (decimal (n / 1000)) (codes "." ++ three_digits n), length-decimal-le digits (n / 1000) some few small)

-- the time at a clock is at most so much, where a frequency is at least that much
quotient : (n f least most : ℕ) → 0 < f → 0 < least → least ≤ f → n ≤ least * most + (least - 1) → n / f ≤ most
quotient n f least most some one le small = elim (cases_lt most (n / f)) [
  | inr within ↦ within
  | inl above ↦
      let low : (most + 1) * least ≤ n / f * f = mul-le (most + 1) least (n / f) f (omega (arith, above)) le in
      let more : (most + 1) * least ≡ least * most + least = grind arith in
      absurd (omega (arith, low, more, (rounded n f some).0, small, one))
]

pub time-long : (frequency : ℕ) (unit : TimeUnit) (clock : ℕ) → 1000000 ≤ frequency → clock < 4000000000 → length (text_at (Times frequency unit) clock) ≤ 14
time-long frequency Microseconds clock fast early =
    let time : time_at frequency Microseconds clock ≤ 4000000000000 = quotient (clock * 10 ^ 9) frequency 1000000 4000000000000 (omega (arith, fast)) (omega arith) fast (omega (arith, early)) in
    thousandths-long 10 (time_at frequency Microseconds clock) (omega arith) (omega (arith, time)) (omega (arith, time))
time-long frequency Milliseconds clock fast early =
    let time : time_at frequency Milliseconds clock ≤ 4000000000 = quotient (clock * 10 ^ 6) frequency 1000000 4000000000 (omega (arith, fast)) (omega arith) fast (omega (arith, early)) in
    thousandths-long 10 (time_at frequency Milliseconds clock) (omega arith) (omega (arith, time)) (omega (arith, time))

-- in the unit for so many clocks, at any frequency
pub any-time-long : (frequency shown clock : ℕ) → 0 < frequency → 0 < shown → clock < 4000000000 → length (text_at (Times frequency (unit_for frequency shown)) clock) ≤ 19
any-time-long frequency shown clock some much early = elim (cases_lt (shown * 100) frequency) [
  | inl fast ↦
      let test : nat_lt (shown * 100) frequency ≡ true = grind (arith, nat_tests) in
      let time : time_at frequency Microseconds clock ≤ 40000000000000000 = quotient (clock * 10 ^ 9) frequency 100 40000000000000000 some (omega arith) (omega (arith, fast, much)) (omega (arith, early)) in
      let short : length (text_at (Times frequency Microseconds) clock) ≤ 18 = thousandths-long 14 (time_at frequency Microseconds clock) (omega arith) (omega (arith, time)) (omega (arith, time)) in
      rw test (omega (arith, short))
  | inr slow ↦
      let test : nat_lt (shown * 100) frequency ≡ false = grind (arith, nat_tests) in
      let time : time_at frequency Milliseconds clock ≤ 4000000000000000 = quotient (clock * 10 ^ 6) frequency 1 4000000000000000 some (omega arith) (omega (arith, some)) (omega (arith, early)) in
      let short : length (text_at (Times frequency Milliseconds) clock) ≤ 17 = thousandths-long 13 (time_at frequency Milliseconds clock) (omega arith) (omega (arith, time)) (omega (arith, time)) in
      rw test (omega (arith, short))
]
