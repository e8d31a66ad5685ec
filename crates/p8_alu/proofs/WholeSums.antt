-- Signed sums of two words and a flag fit 64 bits, so no step of them wraps.
use Rattle.std.proofs.Common.{◌≡◌, ℕ, ◌<◌, ◌^◌, Bool, true, false, ℤ, pos, neg_ℤ, ◌+ℤ◌, ◌-ℤ◌, ◌≤ℤ◌, ◌<ℤ◌, arith, lit<}
use Rattle.std.specs.Int.{w64, from_bool, cast_signed, cast_unsigned}
use Rattle.std.proofs.lemmas.Int.{ints}
use Rattle.p8_words.specs.Words.{signed_value}

-- how a sum is seen after its cast
abbrev pub cast : ℤ → ℤ
cast z = cast_signed w64 (cast_unsigned w64 z)

from_bool-below : (b : Bool) → from_bool b < 2
from_bool-below true = lit< tt
from_bool-below false = lit< tt

signed_value-bounds : (a : ℕ) → a < 2 ^ 32 → (neg_ℤ (pos (2 ^ 31)) ≤ℤ signed_value a) × (signed_value a <ℤ pos (2 ^ 31))
signed_value-bounds a h = (grind (arith, ints), grind (arith, ints))

sum-exact : (x y : ℤ) (k : ℕ) → (neg_ℤ (pos (2 ^ 31)) ≤ℤ x) × (x <ℤ pos (2 ^ 31)) → (neg_ℤ (pos (2 ^ 31)) ≤ℤ y) × (y <ℤ pos (2 ^ 31)) → k < 2
    → cast (cast (cast x +ℤ cast y) +ℤ cast_signed w64 k) ≡ x +ℤ y +ℤ pos k
sum-exact x y k hx hy hk =
    let a = hx.0 in let b = hx.1 in let c = hy.0 in let d = hy.1 in
    let inner : cast (cast x +ℤ cast y) ≡ x +ℤ y = omega (arith, ints) in
    let outer : cast (x +ℤ y +ℤ cast_signed w64 k) ≡ x +ℤ y +ℤ pos k = omega (arith, ints) in
    rw inner outer

difference-exact : (x y : ℤ) (k : ℕ) → (neg_ℤ (pos (2 ^ 31)) ≤ℤ x) × (x <ℤ pos (2 ^ 31)) → (neg_ℤ (pos (2 ^ 31)) ≤ℤ y) × (y <ℤ pos (2 ^ 31)) → k < 2
    → cast (cast (cast x -ℤ cast y) -ℤ cast_signed w64 k) ≡ x -ℤ y -ℤ pos k
difference-exact x y k hx hy hk =
    let a = hx.0 in let b = hx.1 in let c = hy.0 in let d = hy.1 in
    let inner : cast (cast x -ℤ cast y) ≡ x -ℤ y = omega (arith, ints) in
    let outer : cast (x -ℤ y -ℤ cast_signed w64 k) ≡ x -ℤ y -ℤ pos k = omega (arith, ints) in
    rw inner outer

pub signed_sum-exact : (a b : ℕ) (flag : Bool) (x y : ℤ) → a < 2 ^ 32 → b < 2 ^ 32 → x ≡ signed_value a → y ≡ signed_value b
    → cast (cast (cast x +ℤ cast y) +ℤ cast_signed w64 (from_bool flag)) ≡ signed_value a +ℤ signed_value b +ℤ pos (from_bool flag)
signed_sum-exact a b flag x y ha hb ex ey =
    rw (ex, ey) (sum-exact (signed_value a) (signed_value b) (from_bool flag) (signed_value-bounds a ha) (signed_value-bounds b hb) (from_bool-below flag))

pub signed_difference-exact : (a b : ℕ) (flag : Bool) (x y : ℤ) → a < 2 ^ 32 → b < 2 ^ 32 → x ≡ signed_value a → y ≡ signed_value b
    → cast (cast (cast x -ℤ cast y) -ℤ cast_signed w64 (from_bool flag)) ≡ signed_value a -ℤ signed_value b -ℤ pos (from_bool flag)
signed_difference-exact a b flag x y ha hb ex ey =
    rw (ex, ey) (difference-exact (signed_value a) (signed_value b) (from_bool flag) (signed_value-bounds a ha) (signed_value-bounds b hb) (from_bool-below flag))
