-- Lists by the numbers of their elements.
use Rattle.std.proofs.Common.{◌≡◌, ◌⊎◌, inl, inr, ℕ, zero, suc, ◌+◌, ◌<◌, List, [], ◌∷◌, ◌++◌, length, slice_get, map, take, get_or, Some, refl, ap, sym, ◌∙◌, subst, arith, length-append}
use Rattle.std.specs.Prelude.{Result, Ok, Err, IfErr, IsErrAnd, option_map}
use Rattle.std.proofs.lemmas.List.{take_more}
use Rattle.std.proofs.lemmas.Option.{same_Some, none-some, slice_get-map, slice_get_read}

-- an element of a list that is long enough
pub element : {X : Type 0} (xs : List X) (i : ℕ) → i < length xs → (x : X) × (slice_get xs i ≡ Some x)
element [] i l = absurd (omega arith)
element (x ∷ xs) zero l = (x, refl)
element (x ∷ xs) (suc i) l = element xs i (omega arith)

pub one_element : {X : Type 0} (xs : List X) (i : ℕ) {x y : X} → slice_get xs i ≡ Some x → slice_get xs i ≡ Some y → x ≡ y
one_element xs i {x = x} {y = y} a b = same_Some x y (sym a ∙ b)

-- one more at the end
pub at_more : {X : Type 0} (xs : List X) (x : X) (i : ℕ) {y : X} → slice_get (xs ++ x ∷ []) i ≡ Some y → (slice_get xs i ≡ Some y) ⊎ ((i ≡ length xs) × (y ≡ x))
at_more [] x zero {y = y} a = inr (refl, sym (same_Some x y a))
at_more [] x (suc i) {y = y} a = absurd (none-some y a)
at_more (z ∷ xs) x zero a = inl a
at_more (z ∷ xs) x (suc i) a = elim (at_more xs x i a) [ inl b ↦ inl b | inr p ↦ inr (ap suc p.0, p.1) ]

-- a fact for each number and each element there
pub record Each {X : Type 0} (P : ℕ → X → Type 0) (xs : List X) : Type 0 where
  pub at : (i : ℕ) (x : X) → slice_get xs i ≡ Some x → P i x

pub each_of_none : {X : Type 0} (P : ℕ → X → Type 0) → Each P []
each_of_none P = record { at = λ i x a. absurd (none-some x a) }

pub each_more : {X : Type 0} (P : ℕ → X → Type 0) (xs ys : List X) (n : ℕ) (x : X) → Each P xs → length xs ≡ n → P n x → ys ≡ xs ++ x ∷ [] → Each P ys
each_more P xs ys n x each long p is =
    subst (Each P) (sym is) (record { at = λ i y a. elim (at_more xs x i a) [ inl b ↦ each.at i y b | inr e ↦ subst (P i) (sym e.1) (subst (λ k. P k x) (sym (e.0 ∙ long)) p) ] })

pub count_more : {X : Type 0} (xs ys : List X) (x : X) (n : ℕ) → length xs ≡ n → ys ≡ xs ++ x ∷ [] → length ys ≡ n + 1
count_more xs ys x n h is = ap length is ∙ length-append xs (x ∷ []) ∙ ap (λ k. k + 1) h

-- lists of one length with the same elements are the same
pub same_lists : {X : Type 0} (xs ys : List X) → length xs ≡ length ys → ((i : ℕ) (x y : X) → slice_get xs i ≡ Some x → slice_get ys i ≡ Some y → x ≡ y) → xs ≡ ys
same_lists [] [] long same = refl
same_lists [] (y ∷ ys) long same = absurd (omega arith)
same_lists (x ∷ xs) [] long same = absurd (omega arith)
same_lists (x ∷ xs) (y ∷ ys) long same =
    ap (λ z. z ∷ xs) (same 0 x y refl refl) ∙ ap (λ zs. y ∷ zs) (same_lists xs ys (omega arith) (λ i. same (suc i)))

-- where there is something for each element, there is a list of it
pub choose : {X Y : Type 0} (P : ℕ → X → Y → Type 0) (xs : List X) → ((i : ℕ) (x : X) → slice_get xs i ≡ Some x → (y : Y) × P i x y)
    → (ys : List Y) × (length ys ≡ length xs) × ((i : ℕ) (x : X) (y : Y) → slice_get xs i ≡ Some x → slice_get ys i ≡ Some y → P i x y)
choose P [] some = ([], refl, λ i x y a b. absurd (none-some x a))
choose {X = X} {Y = Y} P (x ∷ xs) some =
    let here = some 0 x refl in
    let rest = choose (λ i. P (suc i)) xs (λ i. some (suc i)) in
    (here.0 ∷ rest.0, ap suc rest.1, at here.0 here.1 rest.0 rest.2)
  where
    at : (y : Y) → P 0 x y → (ys : List Y) → ((i : ℕ) (a : X) (b : Y) → slice_get xs i ≡ Some a → slice_get ys i ≡ Some b → P (suc i) a b) → (i : ℕ) (a : X) (b : Y) → slice_get (x ∷ xs) i ≡ Some a → slice_get (y ∷ ys) i ≡ Some b → P i a b
    at y p ys more zero a b g h = subst (P 0 a) (same_Some y b h) (subst (λ z. P 0 z y) (same_Some x a g) p)
    at y p ys more (suc i) a b g h = more i a b g h

-- an element of what a list is turned into
pub of_map : {X Y : Type 0} (v : X → Y) (xs : List X) (i : ℕ) (y : Y) → slice_get (map v xs) i ≡ Some y → (x : X) × (slice_get xs i ≡ Some x) × (y ≡ v x)
of_map v [] i y a = absurd (none-some y a)
of_map v (x ∷ xs) zero y a = (x, refl, sym (same_Some (v x) y a))
of_map v (x ∷ xs) (suc i) y a = of_map v xs i y a

-- an element of a slice, as something else
pub mapped : {X Y : Type 0} (v : X → Y) (xs : List X) (i : ℕ) (x : X) → i < length xs → x ≡ get_or xs i x → slice_get (map v xs) i ≡ Some (v x)
mapped v xs i x l e = slice_get-map v xs i ∙ ap (option_map v) (slice_get_read xs (length xs) i x refl l e)

map_push : {X Y : Type 0} (v : X → Y) (xs : List X) (x : X) → map v (xs ++ x ∷ []) ≡ map v xs ++ v x ∷ []
map_push v [] x = refl
map_push v (y ∷ xs) x = ap (λ ys. v y ∷ ys) (map_push v xs x)

-- one element more of a slice is turned into something else
pub map_more : {X Y : Type 0} (v : X → Y) (xs : List X) (i : ℕ) (x : X) (ys zs : List Y) (y : Y) → i < length xs → x ≡ get_or xs i x → ys ≡ map v (take i xs) → y ≡ v x → zs ≡ ys ++ y ∷ [] → zs ≡ map v (take (i + 1) xs)
map_more v xs i x ys zs y l at before here is =
    is ∙ ap (λ us. us ++ y ∷ []) before ∙ ap (λ u. map v (take i xs) ++ u ∷ []) (here ∙ ap v at) ∙ sym (map_push v (take i xs) (get_or xs i x)) ∙ ap (map v) (sym (take_more xs i x l))

-- what the exit of a `?` returns
pub told : {T E : Type 0} (r : Result T E) (e : E) (P : E → Type 0) → IsErrAnd r (λ y. y ≡ e) → P e → IfErr r P
told (Ok x) e P h p = absurd h
told (Err y) e P h p = subst P (sym h) p
