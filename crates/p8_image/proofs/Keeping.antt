-- Laws of numbers that are kept.
use Rattle.std.proofs.Common.{◌≡◌, ◌≤◌, ◌<◌, ℕ, ◌+◌, ◌*◌, ◌%◌, ◌∙◌, min, List, [], ◌∷◌, ap, sym, arith, add_assoc, add-zero, zero-add, fold}
use Rattle.std.proofs.lemmas.Bool.Decides.{nat_tests}
use Rattle.p8_image.specs.Keeping.{kept}
use Rattle.p8_image.specs.Layout.{total, whole_longs}

pub kept_small : (n : ℕ) → n < 2147483648 → kept n ≡ n
unfolding kept
kept_small n h = grind (arith, nat_tests)

-- what fits the hub is known from what is kept
pub kept_fits : (n : ℕ) → kept n ≤ 32768 → kept n ≡ n
unfolding kept
kept_fits n h = grind (arith, nat_tests)

pub kept_bound : (n : ℕ) → kept n < 4294967296
unfolding kept
kept_bound n = grind (arith, nat_tests)

pub kept_add : (a b : ℕ) → kept (kept a + b) ≡ kept (a + b)
unfolding kept
kept_add a b = grind (arith, nat_tests)

pub kept_added : (a b : ℕ) → kept (a + kept b) ≡ kept (a + b)
unfolding kept
kept_added a b = grind (arith, nat_tests)

pub kept_mod : (n : ℕ) → kept n % 65536 ≡ n % 65536
unfolding kept
kept_mod n = grind (arith, nat_tests)

pub kept_whole : (n : ℕ) → kept (whole_longs (kept n)) ≡ kept (whole_longs n)
unfolding kept
kept_whole n = grind (arith, nat_tests)

-- four bytes for each of some entries
pub kept_entries : (m n : ℕ) → kept (4 + 4 * kept m + 4 * kept n) ≡ kept (4 + 4 * m + 4 * n)
unfolding kept
kept_entries m n = grind (arith, nat_tests)

-- the sum of some numbers, kept at each step
pub fold_kept : {A : Type 0} (f : A → ℕ) (a : ℕ) (xs : List A) → fold (λ (s : ℕ) (x : A). kept (s + f x)) (kept a) xs ≡ kept (a + total f xs)
fold_kept f a [] = ap kept (sym (add-zero a))
fold_kept f a (x ∷ xs) =
    ap (λ (s : ℕ). fold (λ (s : ℕ) (x : _). kept (s + f x)) s xs) (kept_add a (f x)) ∙ fold_kept f (a + f x) xs ∙ ap kept (add_assoc a (f x) (total f xs))

pub kept_total : {A : Type 0} (f : A → ℕ) (xs : List A) → fold (λ (s : ℕ) (x : A). kept (s + f x)) 0 xs ≡ kept (total f xs)
unfolding kept
kept_total f xs = fold_kept f 0 xs ∙ ap kept (zero-add (total f xs))

pub kept_sum : (x y a b : ℕ) → x ≡ kept a → y ≡ kept b → kept (x + y) ≡ kept (a + b)
kept_sum x y a b p q = ap (λ (n : ℕ). kept (n + y)) p ∙ kept_add a y ∙ ap (λ (n : ℕ). kept (a + n)) q ∙ kept_added a b

pub kept_longs : (x a : ℕ) → x ≡ kept a → kept (whole_longs x) ≡ kept (whole_longs a)
kept_longs x a p = ap (λ (n : ℕ). kept (whole_longs n)) p ∙ kept_whole a

pub kept_twice : (n : ℕ) → kept (kept n) ≡ kept n
unfolding kept
kept_twice n = grind (arith, nat_tests)

pub kept_most : (n : ℕ) → kept n ≤ n
unfolding kept
kept_most n = grind (arith, nat_tests)

pub kept_least : (n : ℕ) → min (kept n) 2147483648 ≡ min n 2147483648
unfolding kept
kept_least n = grind (arith, nat_tests)
