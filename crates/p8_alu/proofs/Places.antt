-- Bits that `|` joins where no place has both are added.
use Rattle.std.proofs.Common.{◌≡◌, ℕ, zero, suc, ◌+◌, ◌-◌, ◌*◌, ◌/◌, ◌%◌, ◌^◌, ◌<◌, bit_and, bit_or, sym, ap, ◌∙◌, subst, arith, add_comm}
use Rattle.std.specs.Int.{w32, rotate_left, rotate_right}
use Rattle.std.specs.Int.Bits.{or_self}
use Rattle.std.proofs.lemmas.Nat.{or_shifted, or_comm, shl-shr, mod-pow-add, shr_below, pow_pos, pow-add, and_mask, one_shl}
use Rattle.std.proofs.lemmas.Nat.Bits.{ones_shr}
use Rattle.std.proofs.Math.Nat.{mul-mod_left}
use Rattle.p8_words.specs.Words.{rotated_left, rotated_right}
use Rattle.p8_alu.specs.Effects.{with_bits}

-- what is left in a word of 32 bits when a is shifted left by k places
pub shifted : (a j k : ℕ) → j + k ≡ 32 → a * 2 ^ k % 2 ^ 32 ≡ (a % 2 ^ j) * 2 ^ k
shifted a j k e =
    ap (λ w. a * 2 ^ k % 2 ^ w) (sym e) ∙ mod-pow-add (a * 2 ^ k) j k
    ∙ ap (λ q. q % 2 ^ j * 2 ^ k + a * 2 ^ k % 2 ^ k) (shl-shr a k) ∙ ap (λ r. a % 2 ^ j * 2 ^ k + r) (mul-mod_left a (2 ^ k)) ∙ omega arith

or-shifted_left : (a j k low : ℕ) → j + k ≡ 32 → low < 2 ^ k → bit_or (a * 2 ^ k % 2 ^ 32) low ≡ a * 2 ^ k % 2 ^ 32 + low
or-shifted_left a j k low e h = rw (shifted a j k e) (or_shifted (a % 2 ^ j) k low h)

below-high : (a j k : ℕ) → j + k ≡ 32 → a < 2 ^ 32 → a / 2 ^ k < 2 ^ j
below-high a j k e h = shr_below a j k (subst (λ w. a < 2 ^ w) (sym e) h)

-- ---- rotations

rotate_left-by : (a j k : ℕ) → j + suc k ≡ 32 → a < 2 ^ 32 → bit_or (a * 2 ^ suc k % 2 ^ 32) (a / 2 ^ j) ≡ rotated_left a (suc k)
rotate_left-by a j k e h =
    let same : 32 - suc k ≡ j = omega arith in
    or-shifted_left a j (suc k) (a / 2 ^ j) e (below-high a (suc k) j (omega arith) h)
    ∙ ap (λ i. a * 2 ^ suc k % 2 ^ 32 + a / 2 ^ i) (sym same)

rotate_right-by : (a j k : ℕ) → j + suc k ≡ 32 → a < 2 ^ 32 → bit_or (a / 2 ^ suc k) (a * 2 ^ j % 2 ^ 32) ≡ rotated_right a (suc k)
rotate_right-by a j k e h =
    let same : 32 - suc k ≡ j = omega arith in
    or_comm (a / 2 ^ suc k) (a * 2 ^ j % 2 ^ 32)
    ∙ or-shifted_left a (suc k) j (a / 2 ^ suc k) (omega arith) (below-high a j (suc k) e h)
    ∙ add_comm (a * 2 ^ j % 2 ^ 32) (a / 2 ^ suc k) ∙ ap (λ i. a / 2 ^ suc k + a * 2 ^ i % 2 ^ 32) (sym same)

pub rotate_left-is : (a n : ℕ) → a < 2 ^ 32 → n < 32 → rotate_left w32 a n ≡ rotated_left a n
rotate_left-is a zero h within =
    let whole : a * 1 % 2 ^ 32 ≡ a = omega arith in
    let self : a / 1 ≡ a = omega arith in
    ap (λ x. bit_or x (a / 1)) whole ∙ ap (λ x. bit_or a x) self ∙ or_self a ∙ omega arith
rotate_left-is a (suc k) h within =
    let whole : suc k % 32 ≡ suc k = omega arith in
    let rest : (32 - suc k) % 32 ≡ 32 - suc k = omega arith in
    ap (λ i. bit_or (a * 2 ^ i % 2 ^ 32) (a / 2 ^ ((32 - i) % 32))) whole
    ∙ ap (λ i. bit_or (a * 2 ^ suc k % 2 ^ 32) (a / 2 ^ i)) rest
    ∙ rotate_left-by a (32 - suc k) k (omega arith) h

pub rotate_right-is : (a n : ℕ) → a < 2 ^ 32 → n < 32 → rotate_right w32 a n ≡ rotated_right a n
rotate_right-is a zero h within =
    let whole : a * 1 % 2 ^ 32 ≡ a = omega arith in
    let self : a / 1 ≡ a = omega arith in
    ap (λ x. bit_or (a / 1) x) whole ∙ ap (λ x. bit_or x a) self ∙ or_self a ∙ omega arith
rotate_right-is a (suc k) h within =
    let whole : suc k % 32 ≡ suc k = omega arith in
    let rest : (32 - suc k) % 32 ≡ 32 - suc k = omega arith in
    ap (λ i. bit_or (a / 2 ^ i) (a * 2 ^ ((32 - i) % 32) % 2 ^ 32)) whole
    ∙ ap (λ i. bit_or (a / 2 ^ suc k) (a * 2 ^ i % 2 ^ 32)) rest
    ∙ rotate_right-by a (32 - suc k) k (omega arith) h

-- ---- the freed bits of a shift

powers : (n : ℕ) → n < 32 → 2 ^ n * 2 ^ (32 - n) ≡ 2 ^ 32
powers n within =
    let whole : n + (32 - n) ≡ 32 = omega arith in
    sym (pow-add 2 n (32 - n)) ∙ ap (λ w. 2 ^ w) whole

ones-times : (p q : ℕ) → 0 < p → 0 < q → q * p - p ≡ (q - 1) * p
ones-times p zero hp hq = absurd (omega arith)
ones-times p (suc q) hp hq =
    let less : suc q - 1 ≡ q = omega arith in
    rw less (grind arith)

-- the n highest bits, all 1
freed_right : (n : ℕ) → n < 32 → 2 ^ 32 - 2 ^ (32 - n) ≡ (2 ^ n - 1) * 2 ^ (32 - n)
freed_right n within = ap (λ w. w - 2 ^ (32 - n)) (sym (powers n within)) ∙ ones-times (2 ^ (32 - n)) (2 ^ n) (pow_pos (32 - n)) (pow_pos n)

pub right_filled : (a n : ℕ) → a < 2 ^ 32 → n < 32 → bit_or (a / 2 ^ n) (2 ^ 32 - 1 - (2 ^ 32 - 1) / 2 ^ n) ≡ a / 2 ^ n + (2 ^ 32 - 2 ^ (32 - n))
right_filled a n h within =
    let rest : (2 ^ 32 - 1) / 2 ^ n ≡ 2 ^ (32 - n) - 1 = ones_shr 32 n (omega arith) in
    let mask : 2 ^ 32 - 1 - (2 ^ 32 - 1) / 2 ^ n ≡ 2 ^ 32 - 2 ^ (32 - n) = omega (arith, rest, pow_pos (32 - n)) in
    let low : a / 2 ^ n < 2 ^ (32 - n) = below-high a (32 - n) n (omega arith) h in
    ap (λ m. bit_or (a / 2 ^ n) m) (mask ∙ freed_right n within) ∙ or_comm (a / 2 ^ n) ((2 ^ n - 1) * 2 ^ (32 - n))
    ∙ or_shifted (2 ^ n - 1) (32 - n) (a / 2 ^ n) low ∙ add_comm ((2 ^ n - 1) * 2 ^ (32 - n)) (a / 2 ^ n)
    ∙ ap (λ m. a / 2 ^ n + m) (sym (freed_right n within))

pub left_filled : (a n : ℕ) → n < 32 → bit_or (a * 2 ^ n % 2 ^ 32) (1 * 2 ^ n % 2 ^ 32 - 1) ≡ a * 2 ^ n % 2 ^ 32 + (2 ^ n - 1)
left_filled a n within =
    ap (λ m. bit_or (a * 2 ^ n % 2 ^ 32) (m - 1)) (one_shl n 32 within)
    ∙ or-shifted_left a (32 - n) n (2 ^ n - 1) (omega arith) (omega (arith, pow_pos n))

-- ---- a field in the middle

pub destination_replaced : (a b : ℕ) → a < 2 ^ 32
    → bit_or (bit_or (a / 2 ^ 18 * 2 ^ 18 % 2 ^ 32) (bit_and b (2 ^ 9 - 1) * 2 ^ 9 % 2 ^ 32)) (bit_and a (2 ^ 9 - 1)) ≡ with_bits a 17 9 b
destination_replaced a b h =
    let above : a / 2 ^ 18 * 2 ^ 18 % 2 ^ 32 ≡ a / 2 ^ 18 * 2 ^ 18 = omega arith in
    let field : bit_and b (2 ^ 9 - 1) * 2 ^ 9 % 2 ^ 32 ≡ b % 2 ^ 9 * 2 ^ 9 = omega (arith, and_mask b 9) in
    let two : bit_or (a / 2 ^ 18 * 2 ^ 18) (b % 2 ^ 9 * 2 ^ 9) ≡ (a / 2 ^ 18 * 2 ^ 9 + b % 2 ^ 9) * 2 ^ 9 =
    or_shifted (a / 2 ^ 18) 18 (b % 2 ^ 9 * 2 ^ 9) (omega arith) ∙ omega arith in
    ap (λ x. bit_or (bit_or x (bit_and b (2 ^ 9 - 1) * 2 ^ 9 % 2 ^ 32)) (bit_and a (2 ^ 9 - 1))) above
    ∙ ap (λ x. bit_or (bit_or (a / 2 ^ 18 * 2 ^ 18) x) (bit_and a (2 ^ 9 - 1))) field
    ∙ ap (λ x. bit_or x (bit_and a (2 ^ 9 - 1))) two
    ∙ ap (λ x. bit_or ((a / 2 ^ 18 * 2 ^ 9 + b % 2 ^ 9) * 2 ^ 9) x) (and_mask a 9)
    ∙ or_shifted (a / 2 ^ 18 * 2 ^ 9 + b % 2 ^ 9) 9 (a % 2 ^ 9) (omega arith) ∙ omega arith
