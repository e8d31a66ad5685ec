-- Texts that are made number by number.
use Rattle.std.proofs.Common.{◌≡◌, ℕ, ◌+◌, List, [], ◌∷◌, ◌++◌, refl, sym, ap, ◌∙◌, append_assoc, arith}
use Rattle.std.specs.List.{range_with_len, flat_map}
use Rattle.std.proofs.lemmas.List.{map-id, append-nil}
use Rattle.std.proofs.lemmas.List.Concat.{flat_map-append}
use Rattle.std.proofs.lemmas.List.FromFn.{map-range_with_len_more}

-- the numbers below n + 1
range_more : (n : ℕ) → range_with_len 0 (n + 1) ≡ range_with_len 0 n ++ n ∷ []
range_more n =
    sym (map-id (range_with_len 0 (n + 1))) ∙ map-range_with_len_more (λ (k : ℕ). k) 0 n n (omega arith) ∙ ap (λ (xs : List ℕ). xs ++ n ∷ []) (map-id (range_with_len 0 n))

-- one more number's text
pub flat_map_step : (f : ℕ → List ℕ) (n : ℕ) (old before after : List ℕ) → before ≡ old ++ flat_map f (range_with_len 0 n) → after ≡ before ++ f n → after ≡ old ++ flat_map f (range_with_len 0 (n + 1))
flat_map_step f n old before after so_far more =
    let all : flat_map f (range_with_len 0 (n + 1)) ≡ flat_map f (range_with_len 0 n) ++ f n =
    ap (flat_map f) (range_more n) ∙ flat_map-append f (range_with_len 0 n) (n ∷ []) ∙ ap (λ (xs : List ℕ). flat_map f (range_with_len 0 n) ++ xs) (append-nil (f n)) in
    more ∙ ap (λ (xs : List ℕ). xs ++ f n) so_far ∙ append_assoc old (flat_map f (range_with_len 0 n)) (f n) ∙ ap (λ (xs : List ℕ). old ++ xs) (sym all)

-- numbers that have no text
pub flat_map_none : (f : ℕ → List ℕ) (ns : List ℕ) → ((n : ℕ) → f n ≡ []) → flat_map f ns ≡ []
flat_map_none f [] none = refl
flat_map_none f (n ∷ ns) none = rw (none n, flat_map_none f ns none) refl
