-- The list of a word's bits: the number that they write in the opposite order, and how many are 1.
use Rattle.std.proofs.Common.{◌≡◌, ℕ, zero, suc, ◌+◌, ◌*◌, ◌/◌, ◌%◌, ◌^◌, ◌<◌, List, [], ◌∷◌, ◌++◌, length, reverse, sum, refl, sym, ◌∙◌, ap, arith}
use Rattle.std.specs.Int.{reverse_bits_onto}
use Rattle.std.specs.Int.RustNames.{count_ones}
use Rattle.std.proofs.lemmas.Nat.{ones_cat}
use Rattle.std.proofs.lemmas.List.{reverse-append, length-reverse}
use Rattle.std.proofs.lemmas.List.Sums.{sum_by-cons}
use Rattle.std.proofs.Math.Nat.{pow-suc}
use Rattle.p8_words.specs.Words.{bits_of, number_of}

push-step : (x N P b : ℕ) → x + 2 * (N + P * b) ≡ x + 2 * N + P * 2 * b
push-step x N P b = grind arith

-- the number of bits with one more above them
number_of-push : (bs : List ℕ) (b : ℕ) → number_of (bs ++ b ∷ []) ≡ number_of bs + 2 ^ length bs * b
unfolding number_of
number_of-push [] b = omega arith
number_of-push (x ∷ xs) b =
    rw (number_of-push xs b, pow-suc 2 (length xs)) (push-step x (number_of xs) (2 ^ length xs) b)

length-bits_of : (k n : ℕ) → length (bits_of k n) ≡ k
unfolding bits_of
length-bits_of zero n = refl
length-bits_of (suc k) n = ap suc (length-bits_of k (n / 2))

onto-step : (N a b P : ℕ) → N + (a * 2 + b) * P ≡ (N + P * b) + a * (P * 2)
onto-step N a b P = grind arith

pub reversed-onto : (k n a : ℕ) → reverse_bits_onto k n a ≡ number_of (reverse (bits_of k n)) + a * 2 ^ k
unfolding reverse_bits_onto bits_of number_of
reversed-onto zero n a = omega arith
reversed-onto (suc k) n a =
    let rest = bits_of k (n / 2) in
    let turned : reverse (n % 2 ∷ rest) ≡ reverse rest ++ (n % 2 ∷ []) = reverse-append (n % 2 ∷ []) rest in
    let size : length (reverse rest) ≡ k = length-reverse rest ∙ length-bits_of k (n / 2) in
    let pushed : number_of (reverse rest ++ n % 2 ∷ []) ≡ number_of (reverse rest) + 2 ^ k * (n % 2) =
    number_of-push (reverse rest) (n % 2) ∙ ap (λ i. number_of (reverse rest) + 2 ^ i * (n % 2)) size in
    reversed-onto k (n / 2) (a * 2 + n % 2) ∙ onto-step (number_of (reverse rest)) a (n % 2) (2 ^ k)
    ∙ ap (λ x. x + a * (2 ^ k * 2)) (sym (ap number_of turned ∙ pushed))
    ∙ ap (λ p. number_of (reverse (n % 2 ∷ rest)) + a * p) (sym (pow-suc 2 k))

-- a bit counts itself
ones-bit : (b : ℕ) → b < 2 → count_ones b ≡ b
unfolding count_ones
ones-bit zero h = refl
ones-bit (suc zero) h = refl
ones-bit (suc (suc b)) h = absurd (omega arith)

ones-half : (n : ℕ) → count_ones n ≡ n % 2 + count_ones (n / 2)
ones-half n =
    let whole : n ≡ n / 2 * 2 ^ 1 + n % 2 = omega arith in
    let parts : count_ones n ≡ count_ones (n / 2) + count_ones (n % 2) = ap count_ones whole ∙ ones_cat 1 (n / 2) (n % 2) (omega arith) in
    omega (arith, parts, ones-bit (n % 2) (omega arith))

pub sum-bits_of : (k n : ℕ) → n < 2 ^ k → sum (bits_of k n) ≡ count_ones n
unfolding bits_of count_ones
sum-bits_of zero n h =
    let none : 0 ≡ n = omega arith in
    ap count_ones none
sum-bits_of (suc k) n h =
    sum_by-cons (λ x. x) (n % 2) (bits_of k (n / 2)) ∙ ap (λ s. n % 2 + s) (sum-bits_of k (n / 2) (omega (arith, pow-suc 2 k)))
    ∙ sym (ones-half n)
