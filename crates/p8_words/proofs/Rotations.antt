-- A rotation joins by `|` what leaves a word at one end and what stays, in places of their own: the two are added.
use Rattle.std.proofs.Common.{◌≡◌, ℕ, zero, suc, ◌+◌, ◌-◌, ◌*◌, ◌/◌, ◌%◌, ◌^◌, ◌<◌, bit_or, sym, ap, ◌∙◌, subst, arith, add_comm}
use Rattle.std.specs.Int.{w32, rotate_left, rotate_right}
use Rattle.std.specs.Int.Bits.{or_self}
use Rattle.std.proofs.lemmas.Nat.{or_shifted, or_comm, shl-shr, mod-pow-add, shr_below}
use Rattle.std.proofs.Math.Nat.{mul-mod_left}
use Rattle.p8_words.specs.Words.{rotated_left, rotated_right}

-- what is left in a word of 32 bits when a is shifted left by k places
shifted : (a j k : ℕ) → j + k ≡ 32 → a * 2 ^ k % 2 ^ 32 ≡ (a % 2 ^ j) * 2 ^ k
shifted a j k e =
    ap (λ w. a * 2 ^ k % 2 ^ w) (sym e) ∙ mod-pow-add (a * 2 ^ k) j k
    ∙ ap (λ q. q % 2 ^ j * 2 ^ k + a * 2 ^ k % 2 ^ k) (shl-shr a k) ∙ ap (λ r. a % 2 ^ j * 2 ^ k + r) (mul-mod_left a (2 ^ k)) ∙ omega arith

or-shifted_left : (a j k low : ℕ) → j + k ≡ 32 → low < 2 ^ k → bit_or (a * 2 ^ k % 2 ^ 32) low ≡ a * 2 ^ k % 2 ^ 32 + low
or-shifted_left a j k low e h = rw (shifted a j k e) (or_shifted (a % 2 ^ j) k low h)

below-high : (a j k : ℕ) → j + k ≡ 32 → a < 2 ^ 32 → a / 2 ^ k < 2 ^ j
below-high a j k e h = shr_below a j k (subst (λ w. a < 2 ^ w) (sym e) h)

rotate_left-by : (a j k : ℕ) → j + suc k ≡ 32 → a < 2 ^ 32 → bit_or (a * 2 ^ suc k % 2 ^ 32) (a / 2 ^ j) ≡ rotated_left a (suc k)
rotate_left-by a j k e h =
    let same : 32 - suc k ≡ j = omega arith in
    or-shifted_left a j (suc k) (a / 2 ^ j) e (below-high a (suc k) j (omega arith) h)
    ∙ ap (λ i. a * 2 ^ suc k % 2 ^ 32 + a / 2 ^ i) (sym same)

rotate_right-by : (a j k : ℕ) → j + suc k ≡ 32 → a < 2 ^ 32 → bit_or (a / 2 ^ suc k) (a * 2 ^ j % 2 ^ 32) ≡ rotated_right a (suc k)
rotate_right-by a j k e h =
    let same : 32 - suc k ≡ j = omega arith in
    or_comm (a / 2 ^ suc k) (a * 2 ^ j % 2 ^ 32)
    ∙ or-shifted_left a (suc k) j (a / 2 ^ suc k) (omega arith) (below-high a j (suc k) e h)
    ∙ add_comm (a * 2 ^ j % 2 ^ 32) (a / 2 ^ suc k) ∙ ap (λ i. a / 2 ^ suc k + a * 2 ^ i % 2 ^ 32) (sym same)

pub rotate_left-is : (a n : ℕ) → a < 2 ^ 32 → n < 32 → rotate_left w32 a n ≡ rotated_left a n
rotate_left-is a zero h within =
    let whole : a * 1 % 2 ^ 32 ≡ a = omega arith in
    let self : a / 1 ≡ a = omega arith in
    ap (λ x. bit_or x (a / 1)) whole ∙ ap (λ x. bit_or a x) self ∙ or_self a ∙ omega arith
rotate_left-is a (suc k) h within =
    let whole : suc k % 32 ≡ suc k = omega arith in
    let rest : (32 - suc k) % 32 ≡ 32 - suc k = omega arith in
    ap (λ i. bit_or (a * 2 ^ i % 2 ^ 32) (a / 2 ^ ((32 - i) % 32))) whole
    ∙ ap (λ i. bit_or (a * 2 ^ suc k % 2 ^ 32) (a / 2 ^ i)) rest
    ∙ rotate_left-by a (32 - suc k) k (omega arith) h

pub rotate_right-is : (a n : ℕ) → a < 2 ^ 32 → n < 32 → rotate_right w32 a n ≡ rotated_right a n
rotate_right-is a zero h within =
    let whole : a * 1 % 2 ^ 32 ≡ a = omega arith in
    let self : a / 1 ≡ a = omega arith in
    ap (λ x. bit_or (a / 1) x) whole ∙ ap (λ x. bit_or x a) self ∙ or_self a ∙ omega arith
rotate_right-is a (suc k) h within =
    let whole : suc k % 32 ≡ suc k = omega arith in
    let rest : (32 - suc k) % 32 ≡ 32 - suc k = omega arith in
    ap (λ i. bit_or (a / 2 ^ i) (a * 2 ^ ((32 - i) % 32) % 2 ^ 32)) whole
    ∙ ap (λ i. bit_or (a / 2 ^ suc k) (a * 2 ^ i % 2 ^ 32)) rest
    ∙ rotate_right-by a (32 - suc k) k (omega arith) h
