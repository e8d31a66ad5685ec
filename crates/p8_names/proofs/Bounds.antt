-- Operators of words give words.
use Rattle.std.proofs.Common.{◌≡◌, ℕ, zero, suc, ◌+◌, ◌-◌, ◌*◌, ◌/◌, ◌%◌, ◌^◌, ◌<◌, ◌≤◌, Bool, true, false, not, ◌&&◌, ◌||◌, ◌==◌, nat_le, nat_lt, if◌then◌else◌, Option, Some, List, [], ◌∷◌, ℤ, pos, negsuc, neg_ℤ, ◌-ℤ◌, unsigned_abs, int_div, int_rem, refl, sym, ap, ◌∙◌, arith}
use Rattle.std.proofs.lemmas.Bool.Decides.{nat_tests}
use Rattle.std.proofs.lemmas.Nat.{or_of_32, xor_of_32, and_le_l, div_below, mod-mul-add, mul-le, pow_pos, pow-add}
use Rattle.std.proofs.Math.Nat.{div-add-mod', div-le_self, mod-lt, pow-le-pow_right, pow-suc, zero-lt-suc}
use Rattle.std.specs.Int.{int_div_euclid, reverse_bits_onto}
use Rattle.p8_words.specs.Words.{word_of, signed_value, greatest, square_root, shifted_right, rotated_left, rotated_right, reversed, highest_one, power_of_two}
use Rattle.p8_words.proofs.Bits.{reversed-onto}
use Rattle.p8_words.specs.Operators.{truth, is_true, is_below, beside, unary_values, binary_values, unary_result, binary_result}

-- ---- formulas

word_of-word : (z : ℤ) → word_of z < 2 ^ 32
word_of-word (pos n) = omega arith
word_of-word (negsuc n) = omega arith

least-of : (t : Bool) (n m : ℕ) → m ≤ n → (if t then suc n else m) ≤ suc n
least-of true n m less = omega arith
least-of false n m less = omega (arith, less)

greatest-least : (test : ℕ → Bool) (n : ℕ) → greatest test n ≤ n
unfolding greatest
greatest-least test zero = omega arith
greatest-least test (suc n) = least-of (test (suc n)) n (greatest test n) (greatest-least test n)

truth-word : (b : Bool) → truth b < 2 ^ 32
truth-word true = omega arith
truth-word false = omega arith

choice-word : (b : Bool) (x y : ℕ) → x < 2 ^ 32 → y < 2 ^ 32 → (if b then x else y) < 2 ^ 32
choice-word true x y f g = f
choice-word false x y f g = g

highest-word : (a : ℕ) → highest_one a < 2 ^ 32
highest-word a = omega (arith, greatest-least (λ place. a / 2 ^ (place - 1) % 2 == 1) 32)

root-word : (a : ℕ) → a < 2 ^ 32 → square_root a < 2 ^ 32
root-word a fits = omega (arith, fits, greatest-least (λ r. nat_le (r * r) a) a)

power-word : (a : ℕ) → power_of_two a < 2 ^ 32
power-word a =
    let small : a % 32 ≤ 31 = omega arith in
    let power : 2 ^ (a % 32) ≤ 2 ^ 31 = pow-le-pow_right (zero-lt-suc 1) small in
    omega (arith, power)

less-abs : (t : Bool) (a : ℕ) → 2 ^ 31 ≤ a → a < 2 ^ 32 → unsigned_abs (if t then negsuc (2 ^ 32 - suc a) else pos (a - 2 ^ 32)) < 2 ^ 32
less-abs true a low fits = omega (arith, low, fits)
less-abs false a low fits = omega (arith, low, fits)

abs-of : (t : Bool) (a : ℕ) → nat_lt a (2 ^ 31) ≡ t → a < 2 ^ 32 → unsigned_abs (if t then pos a else pos a -ℤ pos (2 ^ 32)) < 2 ^ 32
abs-of true a is fits = fits
abs-of false a is fits = less-abs (nat_lt a (2 ^ 32)) a (grind (arith, nat_tests)) fits

abs-word : (a : ℕ) → a < 2 ^ 32 → unsigned_abs (signed_value a) < 2 ^ 32
abs-word a fits = abs-of (nat_lt a (2 ^ 31)) a refl fits

right-word : (a n : ℕ) → a < 2 ^ 32 → shifted_right a n < 2 ^ 32
right-word a n fits = omega (arith, fits, div-le_self a (2 ^ n))

parts-times : (q Q r P : ℕ) → (q * Q + r) * P ≡ q * (P * Q) + r * P
parts-times q Q r P = grind arith

rotated-bound : (a P Q : ℕ) → P * Q ≡ 2 ^ 32 → a < 2 ^ 32 → 0 < Q → a * P % 2 ^ 32 + a / Q < 2 ^ 32
rotated-bound a P Q whole fits some =
    let q = a / Q in
    let r = a % Q in
    let is : q * Q + r ≡ a = div-add-mod' a Q in
    let less : r < Q = mod-lt a some in
    let room : (r + 1) * P ≤ Q * P = mul-le (r + 1) P Q P (omega (arith, less)) (omega arith) in
    let product : (r + 1) * P ≡ r * P + P = grind arith in
    let turned : Q * P ≡ 2 ^ 32 = omega (arith, whole) in
    let high : q < P = div_below a Q P some (omega (arith, fits, whole)) in
    let cut : a * P ≡ q * 2 ^ 32 + r * P = ap (λ x. x * P) (sym is) ∙ parts-times q Q r P ∙ ap (λ x. q * x + r * P) whole in
    let low : a * P % 2 ^ 32 ≡ r * P = ap (λ x. x % 2 ^ 32) cut ∙ mod-mul-add q (2 ^ 32) (r * P) (omega (arith, room, product, turned, high)) in
    omega (arith, low, high, room, product, turned)

powers : (n : ℕ) → n ≤ 32 → 2 ^ n * 2 ^ (32 - n) ≡ 2 ^ 32
powers n within =
    let all : n + (32 - n) ≡ 32 = omega (arith, within) in
    sym (pow-add 2 n (32 - n)) ∙ ap (λ i. 2 ^ i) all

rotated_left-word : (a n : ℕ) → a < 2 ^ 32 → n < 32 → rotated_left a n < 2 ^ 32
rotated_left-word a n fits within = rotated-bound a (2 ^ n) (2 ^ (32 - n)) (powers n (omega (arith, within))) fits (pow_pos (32 - n))

rotated_right-word : (a n : ℕ) → a < 2 ^ 32 → n < 32 → rotated_right a n < 2 ^ 32
rotated_right-word a n fits within =
    let turned : 2 ^ (32 - n) * 2 ^ n ≡ 2 ^ 32 = omega (arith, powers n (omega (arith, within))) in
    omega (arith, rotated-bound a (2 ^ (32 - n)) (2 ^ n) turned fits (pow_pos n))

step : (a b P : ℕ) → b < 2 → (a * 2 + b + 1) * P ≤ (a + 1) * (P * 2)
step a b P h = grind arith

onto-bound : (k n a : ℕ) → reverse_bits_onto k n a < (a + 1) * 2 ^ k
unfolding reverse_bits_onto
onto-bound zero n a = omega arith
onto-bound (suc k) n a =
    let bit : n % 2 < 2 = omega arith in
    omega (arith, onto-bound k (n / 2) (a * 2 + n % 2), step a (n % 2) (2 ^ k) bit, ap (λ p. (a + 1) * p) (pow-suc 2 k))

reversed-word : (a : ℕ) → reversed a < 2 ^ 32
reversed-word a = omega (arith, onto-bound 32 a 0, reversed-onto 32 a 0)

-- ---- operators

-- the values of a table are words
abbrev AreWords : List (ℕ × ℕ) → Type 0
AreWords [] = Unit {0}
AreWords (line ∷ lines) = (line.1 < 2 ^ 32) × AreWords lines

line-word : (t : Bool) (w v : ℕ) (rest : Option ℕ) → w < 2 ^ 32 → (rest ≡ Some v → v < 2 ^ 32) → (if t then Some w else rest) ≡ Some v → v < 2 ^ 32
line-word true w v rest word more is = let same : w ≡ v = cc in omega (arith, word, same)
line-word false w v rest word more is = more is

beside-word : (operator : ℕ) (lines : List (ℕ × ℕ)) → AreWords lines → (v : ℕ) → beside operator lines ≡ Some v → v < 2 ^ 32
beside-word operator [] all v is = absurd (cc)
beside-word operator (line ∷ lines) all v is =
    line-word (line.0 == operator) line.1 v (beside operator lines) all.0 (beside-word operator lines all.1 v) is

unary-words : (a : ℕ) → a < 2 ^ 32 → AreWords (unary_values a)
unfolding unary_values
unary-words a fits =
    (word_of-word (neg_ℤ (pos a)), (omega arith, (abs-word a fits, (fits, (highest-word a, (power-word a, (root-word a fits, (truth-word (a == 0), tt))))))))

binary-words : (a b : ℕ) → a < 2 ^ 32 → b < 2 ^ 32 → AreWords (binary_values a b)
unfolding binary_values
binary-words a b fa fb =
    let n : b % 32 < 32 = omega arith in
    let m : (32 - b % 32) % 32 < 32 = omega arith in (
      rotated_right-word a (b % 32) fa n,
      (
        rotated_left-word a (b % 32) fa n,
        (
          right-word a (b % 32) fa,
          (
            omega arith,
            (
              choice-word (is_below a b) b a fb fa,
              (
                choice-word (is_below b a) b a fb fa,
                (
                  omega (arith, fa, and_le_l a b),
                  (
                    or_of_32 a b fa fb,
                    (
                      xor_of_32 a b fa fb,
                      (
                        omega arith,
                        (
                          word_of-word (pos a -ℤ pos b),
                          (
                            word_of-word (int_div_euclid (signed_value a) (pos (2 ^ (b % 32)))),
                            (
                              right-word (reversed a) ((32 - b % 32) % 32) (reversed-word a),
                              (
                                truth-word (is_true a && is_true b),
                                (
                                  truth-word (is_true a || is_true b),
                                  (
                                    omega arith,
                                    (
                                      word_of-word _,
                                      (
                                        choice-word (b == 0) 0 _ (omega arith) (word_of-word (int_div (signed_value a) (signed_value b))),
                                        (
                                          choice-word (b == 0) 0 _ (omega arith) (word_of-word (int_rem (signed_value a) (signed_value b))),
                                          (truth-word (is_below a b), (truth-word (is_below b a), (truth-word (not (a == b)), (truth-word (a == b), (truth-word (not (is_below b a)), (truth-word (not (is_below a b)), tt)))))),
                                        ),
                                      ),
                                    ),
                                  ),
                                ),
                              ),
                            ),
                          ),
                        ),
                      ),
                    ),
                  ),
                ),
              ),
            ),
          ),
        ),
      ),
    )

pub unary-word : (operator a v : ℕ) → a < 2 ^ 32 → unary_result operator a ≡ Some v → v < 2 ^ 32
unary-word operator a v fits is = beside-word operator (unary_values a) (unary-words a fits) v is

pub binary-word : (operator a b v : ℕ) → a < 2 ^ 32 → b < 2 ^ 32 → binary_result operator a b ≡ Some v → v < 2 ^ 32
binary-word operator a b v fa fb is = beside-word operator (binary_values a b) (binary-words a b fa fb) v is
