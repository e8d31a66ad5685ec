-- Lists that a loop makes.
use Rattle.std.proofs.Common.{◌≡◌, ◌∙◌, refl, sym, ap, ℕ, zero, suc, ◌+◌, ◌<◌, List, [], ◌∷◌, ◌++◌, map, take, drop, set, get_or, length, append_assoc, arith, Bool, true, false, ◌||◌, if◌then◌else◌}
use Rattle.std.specs.List.{range_with_len, flat_map, list_any}
use Rattle.std.proofs.lemmas.List.Folds.{list_any_more}
use Rattle.std.proofs.lemmas.List.{map-id, append-nil}
use Rattle.std.proofs.lemmas.List.Concat.{flat_map-append}
use Rattle.std.proofs.lemmas.List.FromFn.{map-range_with_len_more}
use Rattle.p8_wave.specs.declared.variables.Variable.TheVariants.{Pin}
use Rattle.p8_wave.specs.Variables.{variables, cog_variables, lock_variables}
use Rattle.p8_wave.specs.Sections.{still}

-- one more number's item
pub map_step : {X : Type 0} (f : ℕ → X) (n : ℕ) (old before after : List X) → before ≡ old ++ map f (range_with_len 0 n) → after ≡ before ++ f n ∷ [] → after ≡ old ++ map f (range_with_len 0 (n + 1))
map_step f n old before after so_far more =
    more ∙ ap (λ xs. xs ++ f n ∷ []) so_far ∙ append_assoc old (map f (range_with_len 0 n)) (f n ∷ []) ∙ ap (λ xs. old ++ xs) (sym (map-range_with_len_more f 0 n n (omega arith)))

-- the numbers below n + 1
range_more : (n : ℕ) → range_with_len 0 (n + 1) ≡ range_with_len 0 n ++ n ∷ []
range_more n =
    sym (map-id (range_with_len 0 (n + 1))) ∙ map-range_with_len_more (λ (k : ℕ). k) 0 n n (omega arith) ∙ ap (λ (xs : List ℕ). xs ++ n ∷ []) (map-id (range_with_len 0 n))

-- one more number's items
pub flat_map_step : {X : Type 0} (f : ℕ → List X) (n : ℕ) (old before after : List X) → before ≡ old ++ flat_map f (range_with_len 0 n) → after ≡ before ++ f n → after ≡ old ++ flat_map f (range_with_len 0 (n + 1))
flat_map_step f n old before after so_far more =
    let all : flat_map f (range_with_len 0 (n + 1)) ≡ flat_map f (range_with_len 0 n) ++ f n =
    ap (flat_map f) (range_more n) ∙ flat_map-append f (range_with_len 0 n) (n ∷ []) ∙ ap (λ xs. flat_map f (range_with_len 0 n) ++ xs) (append-nil (f n)) in
    more ∙ ap (λ xs. xs ++ f n) so_far ∙ append_assoc old (flat_map f (range_with_len 0 n)) (f n) ∙ ap (λ xs. old ++ xs) (sym all)

-- the item at a place is replaced, where those before it have been
pub set_step : {X : Type 0} (m : X → X) (xs : List X) (i : ℕ) (d : X) → i < length xs → set (map m (take i xs) ++ drop i xs) i (m (get_or (map m (take i xs) ++ drop i xs) i d)) ≡ map m (take (suc i) xs) ++ drop (suc i) xs
set_step m [] i d below = absurd (omega arith)
set_step m (x ∷ xs) zero d below = refl
set_step m (x ∷ xs) (suc i) d below = ap (λ ys. m x ∷ ys) (set_step m xs i d (omega arith))

get_step : {X : Type 0} (m : X → X) (xs : List X) (i : ℕ) (d : X) → i < length xs → get_or (map m (take i xs) ++ drop i xs) i d ≡ get_or xs i d
get_step m [] i d below = absurd (omega arith)
get_step m (x ∷ xs) zero d below = refl
get_step m (x ∷ xs) (suc i) d below = get_step m xs i d (omega arith)

module _ {X : Type 0} (m : X → X) (xs ys : List X) (i : ℕ) (d : X) (made : ys ≡ map m (take i xs) ++ drop i xs) (below : i < length xs) where
  pub set_more : set ys i (m (get_or ys i d)) ≡ map m (take (i + 1) xs) ++ drop (i + 1) xs
  set_more = let one : i + 1 ≡ suc i = omega arith in rw (made, one) (set_step m xs i d below)

  pub any_more : (p : X → Bool) (any : Bool) → any ≡ list_any p (take i xs) → (any || p (get_or ys i d)) ≡ list_any p (take (i + 1) xs)
  any_more p any sofar =
      ap (λ (b : Bool). b || p (get_or ys i d)) sofar
      ∙ ap (λ (x : X). list_any p (take i xs) || p x) (ap (λ (zs : List X). get_or zs i d) made ∙ get_step m xs i d below)
      ∙ sym (list_any_more p xs i d below)

-- all variables that may be shown
pub all_entries : (pins_only : Bool) → map (λ (n : ℕ). still (Pin n)) (range_with_len 0 32) ++ (if pins_only then [] else flat_map (λ (n : ℕ). map still (cog_variables n)) (range_with_len 0 8)) ++ flat_map (λ (n : ℕ). map still (lock_variables n)) (range_with_len 0 8) ≡ map still (variables pins_only)
unfolding variables
all_entries true = refl
all_entries false = refl
