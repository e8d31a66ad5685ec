-- 32-bit words: a word is a whole number from 0 to 2 ^ 32 - 1. Each function here is a formula on whole numbers, reduced mod 2 ^ 32 at its end.
-- Sources: the Propeller Manual v1.2, "Operators" of the Spin chapter and the instructions of the assembly chapter, and this project's profile
-- for a divisor of 0.
use Rattle.std.specs.Prelude.{ℕ, zero, suc, ◌+◌, ◌-◌, ◌*◌, ◌/◌, ◌%◌, ◌^◌, Bool, List, [], ◌∷◌, reverse, sum, ℤ, pos, negsuc, ◌-ℤ◌, ◌*ℤ◌, int_div}
use Rattle.std.specs.Prelude.{int_rem, nat_lt, nat_le, ◌==◌, if◌then◌else◌}
use Rattle.std.specs.Int.{int_div_euclid}

-- ---- whole numbers and words

-- the word that is z mod 2 ^ 32; `negsuc n` is -(n + 1)
abbrev pub word_of : ℤ → ℕ
word_of (pos n) = n % 2 ^ 32
word_of (negsuc n) = 2 ^ 32 - 1 - n % 2 ^ 32

-- the two's complement reading of a word: from 2 ^ 31 on it stands for the number that is less by 2 ^ 32
abbrev pub signed_value : ℕ → ℤ
signed_value a = if nat_lt a (2 ^ 31) then pos a else pos a -ℤ pos (2 ^ 32)

-- ---- arithmetic

abbrev pub wrapped_sum : ℕ → ℕ → ℕ
wrapped_sum a b = (a + b) % 2 ^ 32

-- the upper 32 bits of the signed product: the product divided by 2 ^ 32, rounded down
abbrev pub high_product : ℕ → ℕ → ℕ
high_product a b = word_of (int_div_euclid (signed_value a *ℤ signed_value b) (pos (2 ^ 32)))

-- the signed quotient, rounded toward zero, and the remainder, which has the dividend's sign; both are 0 where the divisor is 0
abbrev pub signed_quotient : ℕ → ℕ → ℕ
signed_quotient a b = if b == 0 then 0 else word_of (int_div (signed_value a) (signed_value b))

abbrev pub signed_remainder : ℕ → ℕ → ℕ
signed_remainder a b = if b == 0 then 0 else word_of (int_rem (signed_value a) (signed_value b))

-- the greatest of the numbers 1 to n that passes the test, or 0 where none does
unfoldable pub greatest : (ℕ → Bool) → ℕ → ℕ
greatest test zero = 0
greatest test (suc n) = if test (suc n) then suc n else greatest test n

-- the square root, rounded down: the greatest r with r * r at most a
abbrev pub square_root : ℕ → ℕ
square_root a = greatest (λ r. nat_le (r * r) a) a

-- ---- shifts and rotations of a word by n places, n below 32

-- the bits that leave the word are lost, and the freed ones are 0
abbrev pub shifted_left : ℕ → ℕ → ℕ
shifted_left a n = a * 2 ^ n % 2 ^ 32

abbrev pub shifted_right : ℕ → ℕ → ℕ
shifted_right a n = a / 2 ^ n

-- the signed value divided by 2 ^ n and rounded down, so that the freed bits are bit 31
abbrev pub shifted_right_signed : ℕ → ℕ → ℕ
shifted_right_signed a n = word_of (int_div_euclid (signed_value a) (pos (2 ^ n)))

-- the bits that leave the word come in at the other end
abbrev pub rotated_left : ℕ → ℕ → ℕ
rotated_left a n = shifted_left a n + a / 2 ^ (32 - n)

abbrev pub rotated_right : ℕ → ℕ → ℕ
rotated_right a n = shifted_right a n + a * 2 ^ (32 - n) % 2 ^ 32

-- ---- bits

-- the lowest k bits of a, lowest first
unfoldable pub bits_of : ℕ → ℕ → List ℕ
bits_of zero a = []
bits_of (suc k) a = a % 2 ∷ bits_of k (a / 2)

-- the number that these bits, lowest first, write
unfoldable pub number_of : List ℕ → ℕ
number_of [] = 0
number_of (b ∷ bs) = b + 2 * number_of bs

-- the word whose 32 bits stand in the opposite order
abbrev pub reversed : ℕ → ℕ
reversed a = number_of (reverse (bits_of 32 a))

-- whether an odd number of the 32 bits are 1
abbrev pub has_odd_ones : ℕ → Bool
has_odd_ones a = sum (bits_of 32 a) % 2 == 1

-- the place of the highest 1, the lowest bit's place being 1, or 0 where no bit is 1
abbrev pub highest_one : ℕ → ℕ
highest_one a = greatest (λ place. a / 2 ^ (place - 1) % 2 == 1) 32

-- 2 to the power a mod 32
abbrev pub power_of_two : ℕ → ℕ
power_of_two a = 2 ^ (a % 32)
