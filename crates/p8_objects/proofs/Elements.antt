-- Elements of lists by their numbers, the first and the last that are so.
use Rattle.std.proofs.Common.{◌≡◌, ℕ, ◌+◌, ◌<◌, ◌⊎◌, inl, inr, zero, suc, List, [], ◌∷◌, ◌++◌, length, slice_get, refl, ap, sym, ◌∙◌, subst, arith, zero-add, map, get_or, option_map}
use Rattle.std.proofs.lemmas.List.{length-map}
use Rattle.std.proofs.lemmas.Option.{slice_get_within, same_Some, none-some, slice_get-map, slice_get_read}
use Rattle.p8_objects.specs.Lists.{IsAt, HasOne, IsFirst, IsLast}
use Rattle.p8_objects.specs.Lists as lists

-- a number has one element
pub one_at : {X : Type 0} {xs : List X} {i j : ℕ} {x y : X} → IsAt xs i x → IsAt xs j y → i ≡ j → x ≡ y
one_at {xs = xs} {x = x} {y = y} a b e = same_Some x y (sym a.is ∙ (ap (λ n. slice_get xs n) e ∙ b.is))

pub is_within : {X : Type 0} {xs : List X} {i : ℕ} {x : X} → IsAt xs i x → i < length xs
is_within {xs = xs} {i = i} {x = x} a = slice_get_within xs i x a.is

pub none_at : {X : Type 0} {i : ℕ} {x : X} → IsAt [] i x → ⊥
none_at {x = x} a = none-some x a.is

pub skip : {X : Type 0} {xs : List X} {i : ℕ} {x y : X} → IsAt xs i x → IsAt (y ∷ xs) (suc i) x
skip a = record { is = a.is }

pub unskip : {X : Type 0} {xs : List X} {i : ℕ} {x y : X} → IsAt (y ∷ xs) (suc i) x → IsAt xs i x
unskip a = record { is = a.is }

-- in a longer list an element keeps its number
pub at_front : {X : Type 0} (xs ys : List X) {i : ℕ} {x : X} → IsAt xs i x → IsAt (xs ++ ys) i x
at_front [] ys a = absurd (none_at a)
at_front (z ∷ xs) ys {i = zero} a = record { is = a.is }
at_front (z ∷ xs) ys {i = suc i} a = skip (at_front xs ys (unskip a))

-- one more at the end
pub at_end : {X : Type 0} (xs : List X) (x : X) → IsAt (xs ++ x ∷ []) (length xs) x
at_end [] x = record { is = refl }
at_end (z ∷ xs) x = skip (at_end xs x)

pub at_more : {X : Type 0} (xs : List X) (x : X) {i : ℕ} {y : X} → IsAt (xs ++ x ∷ []) i y → IsAt xs i y ⊎ ((i ≡ length xs) × (y ≡ x))
at_more [] x {i = zero} {y = y} a = inr (refl, sym (same_Some x y a.is))
at_more [] x {i = suc i} a = absurd (none_at (unskip a))
at_more (z ∷ xs) x {i = zero} a = inl (record { is = a.is })
at_more (z ∷ xs) x {i = suc i} a = elim (at_more xs x (unskip a)) [ inl b ↦ inl (skip b) | inr p ↦ inr (ap suc p.0, p.1) ]

-- an element of two lists one after the other
pub at_either : {X : Type 0} (xs ys : List X) {i : ℕ} {x : X} → IsAt (xs ++ ys) i x → IsAt xs i x ⊎ ((j : ℕ) × IsAt ys j x)
at_either [] ys {i = i} a = inr (i, a)
at_either (z ∷ xs) ys {i = zero} a = inl (record { is = a.is })
at_either (z ∷ xs) ys {i = suc i} a = elim (at_either xs ys (unskip a)) [ inl b ↦ inl (skip b) | inr p ↦ inr p ]

pub at_behind : {X : Type 0} (xs : List X) {ys : List X} {i : ℕ} {x : X} → IsAt ys i x → IsAt (xs ++ ys) (length xs + i) x
at_behind [] {ys = ys} {i = i} {x = x} a = record { is = ap (λ n. slice_get ys n) (zero-add i) ∙ a.is }
at_behind (z ∷ xs) {ys = ys} {i = i} {x = x} a = let h = at_behind xs a in record { is = ap (λ n. slice_get (z ∷ (xs ++ ys)) n) (suc_first (length xs) i) ∙ h.is }
  where
    suc_first : (m n : ℕ) → suc m + n ≡ suc (m + n)
    suc_first m n = omega arith

-- an element of a slice, as something else
pub mapped_at : {X Y : Type 0} (v : X → Y) (xs : List X) (i : ℕ) (x : X) → i < length xs → x ≡ get_or xs i x → IsAt (map v xs) i (v x)
mapped_at v xs i x l e = record { is = slice_get-map v xs i ∙ ap (option_map v) (slice_get_read xs (length xs) i x refl l e) }

pub is_within_mapped : {X Y : Type 0} (v : X → Y) (xs : List X) {i : ℕ} {y : Y} → IsAt (map v xs) i y → i < length xs
is_within_mapped v xs a = let w = is_within a in omega (arith, length-map xs v)

-- what holds of those before a number, and there, holds of those before the next number
pub each_more : {X : Type 0} (P : X → Type 0) (xs : List X) (i : ℕ) (x : X) → IsAt xs i x → P x → ((k : ℕ) (y : X) → k < i → IsAt xs k y → P y) → (k : ℕ) (y : X) → k < i + 1 → IsAt xs k y → P y
each_more P xs i x a p before k y l b = elim (below_or_there k i l) [ inl h ↦ before k y h b | inr e ↦ subst P (one_at a b (sym e)) p ]
  where
    below_or_there : (k i : ℕ) → k < i + 1 → (k < i) ⊎ (k ≡ i)
    below_or_there k i l = grind arith

-- the first that is so is one that is so
pub first_is_one : {X : Type 0} {P : X → Type 0} {xs : List X} {x : X} → IsFirst P xs x → HasOne P xs
first_is_one (lists.here {x = x} p) = record { number = 0; element = x; stands = record { is = refl }; holds = p }
first_is_one (lists.later n f) =
    let h = first_is_one f in
    record { number = suc h.number; element = h.element; stands = skip h.stands; holds = h.holds }

pub last_is_one : {X : Type 0} {P : X → Type 0} {xs : List X} {x : X} → IsLast P xs x → (i : ℕ) × IsAt xs i x × P x
last_is_one (lists.here p n) = (0, record { is = refl }, p)
last_is_one (lists.later l) = let h = last_is_one l in (suc h.0, skip h.1, h.2)

last_holds : {X : Type 0} {P : X → Type 0} {xs : List X} {x : X} → IsLast P xs x → HasOne P xs
last_holds {x = x} l = let h = last_is_one l in record { number = h.0; element = x; stands = h.1; holds = h.2 }

-- there is one first, and one last
pub one_first : {X : Type 0} {P : X → Type 0} {xs : List X} {x y : X} → IsFirst P xs x → IsFirst P xs y → x ≡ y
one_first (lists.here p) (lists.here q) = refl
one_first (lists.here p) (lists.later n f) = absurd (n p)
one_first (lists.later n f) (lists.here p) = absurd (n p)
one_first (lists.later n f) (lists.later m g) = one_first f g

pub one_last : {X : Type 0} {P : X → Type 0} {xs : List X} {x y : X} → IsLast P xs x → IsLast P xs y → x ≡ y
one_last (lists.here p n) (lists.here q m) = refl
one_last (lists.here p n) (lists.later l) = absurd (n (last_holds l))
one_last (lists.later l) (lists.here p n) = absurd (n (last_holds l))
one_last (lists.later l) (lists.later m) = one_last l m

-- the one after which none is so is the last
pub last_at : {X : Type 0} {P : X → Type 0} (xs : List X) (i : ℕ) {x : X} → IsAt xs i x → P x → ((j : ℕ) (y : X) → i < j → IsAt xs j y → ¬ P y) → IsLast P xs x
last_at [] i a p n = absurd (none_at a)
last_at {P = P} (z ∷ xs) zero {x = x} a p n =
    subst (λ y. IsLast P (z ∷ xs) y) (same_Some z x a.is)
    (lists.here (let Q = P in subst (λ y. Q y) (sym (same_Some z x a.is)) p) (λ h. n (suc h.number) h.element (omega arith) (skip h.stands) h.holds))
last_at (z ∷ xs) (suc i) a p n = lists.later (last_at xs i (unskip a) p (λ j y l b. n (suc j) y (omega arith) (skip b)))
