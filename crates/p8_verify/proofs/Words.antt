-- What the formulas of words give is below 2 ^ 32.
use Rattle.std.proofs.Common.{◌≡◌, ◌∙◌, sym, ap, subst, refl, arith, ℕ, zero, suc, ◌+◌, ◌-◌, ◌*◌, ◌/◌, ◌%◌, ◌^◌, ◌<◌, ◌≤◌, nat_lt, Bool, true, false}
use Rattle.std.proofs.Common.{if◌then◌else◌}
use Rattle.std.proofs.Common.{List, [], ◌∷◌, length, reverse, bit_and, bit_or, bit_xor}
use Rattle.std.specs.List.{All}
use Rattle.std.specs.Prelude.{ℤ, pos, negsuc, ◌-ℤ◌, unsigned_abs}
use Rattle.std.proofs.lemmas.Bool.{ltb-false}
use Rattle.std.proofs.lemmas.Nat.{or_lt, xor_lt, and_le_l, and_le_r, or_shifted, shl-shr, shr_le, shr_below, pow_pos, mod-pow-add}
use Rattle.std.proofs.Math.Pow.{pow_mono}
use Rattle.std.proofs.Math.Nat.{mul-mod_left, pow-suc}
use Rattle.std.proofs.lemmas.Int.{ints}
use Rattle.std.proofs.lemmas.List.{length-reverse, reverse-append}
use Rattle.std.proofs.lemmas.List.Elements.{All-nil, All-cons, All-append, All-head, All-tail}
use Rattle.p8_words.specs.Words.{word_of, signed_value, shifted_left, rotated_left, rotated_right, bits_of, number_of, reversed, greatest}
use Rattle.p8_alu.specs.Effects.{shifted_right_filling, shifted_left_filling}

pub mod-word : (n : ℕ) → n % 2 ^ 32 < 2 ^ 32
mod-word n = omega arith

pub word_of-word : (z : ℤ) → word_of z < 2 ^ 32
word_of-word (pos n) = omega arith
word_of-word (negsuc n) = omega arith

pub if-word : (b : Bool) {x y : ℕ} → x < 2 ^ 32 → y < 2 ^ 32 → (if b then x else y) < 2 ^ 32
if-word true h k = h
if-word false h k = k

pub and-word : (a b : ℕ) → a < 2 ^ 32 → bit_and a b < 2 ^ 32
and-word a b h = let le = and_le_l a b in omega (arith, le)

pub and-word-right : (a b : ℕ) → b < 2 ^ 32 → bit_and a b < 2 ^ 32
and-word-right a b h = let le = and_le_r a b in omega (arith, le)

pub or-word : (a b : ℕ) → a < 2 ^ 32 → b < 2 ^ 32 → bit_or a b < 2 ^ 32
or-word a b h k = or_lt 32 a b h k

pub xor-word : (a b : ℕ) → a < 2 ^ 32 → b < 2 ^ 32 → bit_xor a b < 2 ^ 32
xor-word a b h k = xor_lt 32 a b h k

pub right-word : (a n : ℕ) → a < 2 ^ 32 → a / 2 ^ n < 2 ^ 32
right-word a n h = let le = shr_le a n in omega (arith, le)

-- ---- rotations

-- a multiple of 2 ^ n and what is below that
multiple-and : (x n b h : ℕ) → x ≡ h * 2 ^ n → x < 2 ^ 32 → b < 2 ^ n → n ≤ 32 → x + b < 2 ^ 32
multiple-and x n b h is low below le =
    let more : 2 ^ n ≤ 2 ^ 32 = pow_mono le in
    let sum : bit_or x b ≡ x + b = ap (λ y. bit_or y b) is ∙ or_shifted h n b below ∙ ap (λ y. y + b) (sym is) in
    subst (λ s. s < 2 ^ 32) sum (or-word x b low (omega (arith, more, below)))

left-multiple : (a n j : ℕ) → j + n ≡ 32 → shifted_left a n ≡ (a % 2 ^ j) * 2 ^ n
left-multiple a n j e =
    let whole : a * 2 ^ n % 2 ^ 32 ≡ a * 2 ^ n % 2 ^ (j + n) = ap (λ k. a * 2 ^ n % 2 ^ k) (sym e) in
    let split : a * 2 ^ n % 2 ^ (j + n) ≡ (a * 2 ^ n / 2 ^ n % 2 ^ j) * 2 ^ n + a * 2 ^ n % 2 ^ n = mod-pow-add (a * 2 ^ n) j n in
    let first : (a * 2 ^ n / 2 ^ n % 2 ^ j) * 2 ^ n ≡ (a % 2 ^ j) * 2 ^ n = ap (λ x. (x % 2 ^ j) * 2 ^ n) (shl-shr a n) in
    let none : a * 2 ^ n % 2 ^ n ≡ 0 = mul-mod_left a (2 ^ n) in
    omega (arith, whole, split, first, none)

pub rotated_left-word : (a n : ℕ) → a < 2 ^ 32 → n < 32 → rotated_left a n < 2 ^ 32
rotated_left-word a n h low =
    let e : (32 - n) + n ≡ 32 = omega (arith, low) in
    let f : n + (32 - n) ≡ 32 = omega (arith, low) in
    let rest : a / 2 ^ (32 - n) < 2 ^ n = shr_below a n (32 - n) (subst (λ k. a < 2 ^ k) (sym f) h) in
    multiple-and (shifted_left a n) n (a / 2 ^ (32 - n)) (a % 2 ^ (32 - n)) (left-multiple a n (32 - n) e) (mod-word (a * 2 ^ n)) rest (omega (arith, low))

pub rotated_right-word : (a n : ℕ) → a < 2 ^ 32 → n < 32 → rotated_right a n < 2 ^ 32
rotated_right-word a n h low =
    let e : n + (32 - n) ≡ 32 = omega (arith, low) in
    let f : (32 - n) + n ≡ 32 = omega (arith, low) in
    let rest : a / 2 ^ n < 2 ^ (32 - n) = shr_below a (32 - n) n (subst (λ k. a < 2 ^ k) (sym f) h) in
    let sum = multiple-and (shifted_left a (32 - n)) (32 - n) (a / 2 ^ n) (a % 2 ^ n) (left-multiple a (32 - n) n e) (mod-word (a * 2 ^ (32 - n))) rest
    (omega arith) in
    omega (arith, sum)

-- ---- bits, and what is found

abbrev IsBit : ℕ → Type 0
IsBit b = b < 2

all-reversed : (xs : List ℕ) → All IsBit xs → All IsBit (reverse xs)
all-reversed [] all = all
all-reversed (x ∷ xs) all =
    subst (All IsBit) (sym (reverse-append (x ∷ []) xs))
    (All-append IsBit (reverse xs) (x ∷ []) (all-reversed xs (All-tail IsBit x xs all)) (All-cons IsBit x [] (All-head IsBit x xs all) (All-nil IsBit)))

bits-are : (k a : ℕ) → All IsBit (bits_of k a)
unfolding bits_of
bits-are zero a = All-nil IsBit
bits-are (suc k) a = All-cons IsBit (a % 2) (bits_of k (a / 2)) (omega arith) (bits-are k (a / 2))

bits-long : (k a : ℕ) → length (bits_of k a) ≡ k
unfolding bits_of
bits-long zero a = refl
bits-long (suc k) a = ap suc (bits-long k (a / 2))

twice : (n : ℕ) → 2 ^ suc n ≡ 2 * 2 ^ n
twice n = let p = pow-suc 2 n in omega (arith, p)

number-below : (bs : List ℕ) → All IsBit bs → number_of bs < 2 ^ length bs
unfolding number_of
number-below [] all = omega arith
number-below (b ∷ bs) all =
    let rest = number-below bs (All-tail IsBit b bs all) in
    let bit : b < 2 = All-head IsBit b bs all in
    let more = twice (length bs) in
    omega (arith, rest, bit, more)

pub reversed-word : (a : ℕ) → reversed a < 2 ^ 32
reversed-word a =
    subst (λ n. number_of (reverse (bits_of 32 a)) < 2 ^ n) (length-reverse (bits_of 32 a) ∙ bits-long 32 a)
    (number-below (reverse (bits_of 32 a)) (all-reversed (bits_of 32 a) (bits-are 32 a)))

found-below : (b : Bool) (n g : ℕ) → g ≤ n → (if b then suc n else g) ≤ suc n
found-below true n g h = omega arith
found-below false n g h = omega (arith, h)

pub greatest-below : (test : ℕ → Bool) (n : ℕ) → greatest test n ≤ n
unfolding greatest
greatest-below test zero = omega arith
greatest-below test (suc n) = found-below (test (suc n)) n (greatest test n) (greatest-below test n)

-- ---- signed readings

absolute-if : (a : ℕ) (b : Bool) → nat_lt a (2 ^ 31) ≡ b → a < 2 ^ 32 → unsigned_abs (if b then pos a else pos a -ℤ pos (2 ^ 32)) < 2 ^ 32
absolute-if a true e h = h
absolute-if a false e h = let most = ltb-false a (2 ^ 31) e in grind (arith, ints, most)

pub absolute-word : (a : ℕ) → a < 2 ^ 32 → unsigned_abs (signed_value a) < 2 ^ 32
absolute-word a h = absolute-if a (nat_lt a (2 ^ 31)) refl h

-- ---- shifts that fill

left-filled : (x n : ℕ) (flag : Bool) (h : ℕ) → x ≡ h * 2 ^ n → x < 2 ^ 32 → n ≤ 32 → 0 < 2 ^ n → x + (if flag then 2 ^ n - 1 else 0) < 2 ^ 32
left-filled x n true h is low le some = multiple-and x n (2 ^ n - 1) h is low (omega (arith, some)) le
left-filled x n false h is low le some = omega (arith, low)

pub left_filling-word : (a n : ℕ) (flag : Bool) → n < 32 → shifted_left_filling a n flag < 2 ^ 32
left_filling-word a n flag low =
    left-filled (shifted_left a n) n flag (a % 2 ^ (32 - n)) (left-multiple a n (32 - n) (omega (arith, low))) (mod-word (a * 2 ^ n))
    (omega (arith, low)) (pow_pos n)

right-filled : (q x : ℕ) (flag : Bool) → q < x → x ≤ 2 ^ 32 → q + (if flag then 2 ^ 32 - x else 0) < 2 ^ 32
right-filled q x true h k = omega (arith, h, k)
right-filled q x false h k = omega (arith, h, k)

pub right_filling-word : (a n : ℕ) (flag : Bool) → a < 2 ^ 32 → n < 32 → shifted_right_filling a n flag < 2 ^ 32
right_filling-word a n flag h low =
    let f : (32 - n) + n ≡ 32 = omega (arith, low) in
    right-filled (a / 2 ^ n) (2 ^ (32 - n)) flag (shr_below a (32 - n) n (subst (λ k. a < 2 ^ k) (sym f) h)) (pow_mono {i = 32 - n} {j = 32} (omega arith))
