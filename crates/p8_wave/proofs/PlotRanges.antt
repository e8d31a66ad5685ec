-- Lists of numbers, one after the other.
use Rattle.std.proofs.Common.{◌≡◌, ◌∙◌, ap, ap₂, sym, ℕ, zero, suc, ◌+◌, inl, inr, ◌⊎◌, List, [], ◌∷◌, ◌++◌, flat_map, arith}
use Rattle.std.specs.List.{range_with_len}
use Rattle.std.proofs.lemmas.List.{append-nil}
use Rattle.std.proofs.lemmas.Grind.{flat_map-append}

pub range-both : (a b c : ℕ) → range_with_len a (b + c) ≡ range_with_len a b ++ range_with_len (a + b) c
range-both a zero c = ap₂ range_with_len (omega arith) (omega arith)
range-both a (suc b) c =
    let more : suc b + c ≡ suc (b + c) = omega arith in let start : a + 1 + b ≡ a + suc b = omega arith in
    ap (range_with_len a) more ∙ ap (λ (xs : List ℕ). a ∷ xs) (range-both (a + 1) b c) ∙ ap (λ (x : ℕ). a ∷ (range_with_len (a + 1) b ++ range_with_len x c)) start

pub range-none : (x y n : ℕ) → (n ≡ 0) ⊎ (x ≡ y) → range_with_len x n ≡ range_with_len y n
range-none x y n (inl none) = ap (range_with_len x) none ∙ ap (range_with_len y) (sym none)
range-none x y n (inr same) = ap (λ (z : ℕ). range_with_len z n) same

pub flat_map-more : (f : ℕ → List ℕ) (n : ℕ) → flat_map f (range_with_len 0 (n + 1)) ≡ flat_map f (range_with_len 0 n) ++ f n
flat_map-more f n =
    ap (flat_map f) (range-both 0 n 1 ∙ ap (λ (x : ℕ). range_with_len 0 n ++ x ∷ []) (omega arith))
    ∙ flat_map-append f (range_with_len 0 n) (n ∷ [])
    ∙ ap (λ (xs : List ℕ). flat_map f (range_with_len 0 n) ++ xs) (append-nil (f n))
