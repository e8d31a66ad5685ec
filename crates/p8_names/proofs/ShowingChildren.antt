-- What is seen of items, one item further; and whether a name is in a set.
use Rattle.std.proofs.Common.{◌≡◌, ◌↔◌, inl, inr, ℕ, zero, suc, ◌+◌, ◌<◌, Bool, true, false, ◌||◌, List, [], ◌∷◌, ◌++◌, length, take, drop, get_or, flat_map, filter_map, Option, Some, None, option_to_list, IsTrue, refl, sym, ap, ◌∙◌, append_assoc, append-nil, arith}
use Rattle.std.specs.Prelude.{Contains}
use Rattle.std.specs.List.{cons_option}
use Rattle.std.specs.Str.{bytes_eq}
use Rattle.std.proofs.lemmas.Bool.{cases_Bool}
use Rattle.std.proofs.lemmas.List.{take_more, map_push, at_drop_more}
use Rattle.std.proofs.lemmas.List.Elements.{filter_map-append}
use Rattle.std.proofs.lemmas.Slice.Eq.{bytes_eq-Decides}
use Rattle.p8_tree.specs.Sources as trees
use Rattle.p8_fold.specs.Meanings.{Setting}
use Rattle.p8_constants.specs.declared.items.Item.{Item}
use Rattle.p8_constants.specs.Standing.{item_of, items_of}
use Rattle.p8_kinds.specs.declared.children.ChildMethod.{ChildMethod}
use Rattle.p8_kinds.specs.declared.children.ChildConst.{ChildConst}
use Rattle.p8_names.specs.Settings.{is_one_of}
use Rattle.p8_names.specs.Kinds.{objects, object_in}
use Rattle.p8_names.specs.Children.{behind, method_at, methods_from, constant_at, constants_from}

-- ---- a name in a set

to_names : (names : List (List ℕ)) (n : List ℕ) → is_one_of names n ≡ true → Contains names n
to_names [] n h = absurd cc
to_names (m ∷ ms) n h = elim (cases_Bool (bytes_eq n m)) [
  | inl same ↦ (0, omega arith, sym ((bytes_eq-Decides n m).0 same))
  | inr apart ↦
      let (i, lt, is) = to_names ms n (sym (ap (λ b. b || is_one_of ms n) apart) ∙ h) in
      (suc i, omega arith, is)
]

from_names : (names : List (List ℕ)) (n : List ℕ) → Contains names n → is_one_of names n ≡ true
from_names [] n (i, lt, is) = absurd (omega arith)
from_names (m ∷ ms) n (zero, lt, is) = ap (λ b. b || is_one_of ms n) ((bytes_eq-Decides n m).1 (sym is))
from_names (m ∷ ms) n (suc i, lt, is) = elim (cases_Bool (bytes_eq n m)) [
  | inl same ↦ ap (λ b. b || is_one_of ms n) same
  | inr apart ↦ ap (λ b. b || is_one_of ms n) apart ∙ from_names ms n (i, omega arith, is)
]

same_truth : (b c : Bool) → (b ≡ true → c ≡ true) → (c ≡ true → b ≡ true) → b ≡ c
same_truth true true to back = refl
same_truth true false to back = absurd (let so = to refl in cc)
same_truth false true to back = absurd (let so = back refl in cc)
same_truth false false to back = refl

pub told : (names : List (List ℕ)) (n m : List ℕ) (b : Bool) → n ≡ m → (IsTrue b ↔ Contains names n) → b ≡ is_one_of names m
told names n m b e h = same_truth b (is_one_of names n) (λ is. from_names names n (h.0 is)) (λ is. h.1 (to_names names n is)) ∙ ap (is_one_of names) e

-- ---- items

pub methods_next : (xs : List Item) (i : ℕ) (d : Item) (names : List (List ℕ)) (before now all : List ChildMethod) → i < length xs → d ≡ get_or xs i d → all ≡ before ++ methods_from names (items_of (drop i xs)) → now ≡ before ++ method_at names (item_of d) → all ≡ now ++ methods_from (behind names (item_of d)) (items_of (drop (i + 1) xs))
methods_next xs i d names before now all lt is was adds =
    was ∙ (ap (λ ms. before ++ ms) (at_drop_more (λ ys. methods_from names (items_of ys)) xs i d lt ∙ ap (λ x. methods_from names (item_of x ∷ items_of (drop (i + 1) xs))) (sym is))
    ∙ (sym (append_assoc before (method_at names (item_of d)) (methods_from (behind names (item_of d)) (items_of (drop (i + 1) xs))))
    ∙ ap (λ ms. ms ++ methods_from (behind names (item_of d)) (items_of (drop (i + 1) xs))) (sym adds)))

pub constants_next : (s : Setting) (xs : List Item) (i : ℕ) (d : Item) (names : List (List ℕ)) (before now all : List ChildConst) → i < length xs → d ≡ get_or xs i d → all ≡ before ++ constants_from s names (items_of (drop i xs)) → now ≡ before ++ constant_at s names (item_of d) → all ≡ now ++ constants_from s (behind names (item_of d)) (items_of (drop (i + 1) xs))
constants_next s xs i d names before now all lt is was adds =
    was ∙ (ap (λ ms. before ++ ms) (at_drop_more (λ ys. constants_from s names (items_of ys)) xs i d lt ∙ ap (λ x. constants_from s names (item_of x ∷ items_of (drop (i + 1) xs))) (sym is))
    ∙ (sym (append_assoc before (constant_at s names (item_of d)) (constants_from s (behind names (item_of d)) (items_of (drop (i + 1) xs))))
    ∙ ap (λ ms. ms ++ constants_from s (behind names (item_of d)) (items_of (drop (i + 1) xs))) (sym adds)))

-- ---- objects

flat_push : {X Y : Type 0} (f : X → List Y) (xs : List X) (x : X) → flat_map f (xs ++ x ∷ []) ≡ flat_map f xs ++ f x
flat_push f [] x = append-nil (f x)
flat_push f (y ∷ ys) x = ap (λ r. f y ++ r) (flat_push f ys x) ∙ sym (append_assoc (f y) (flat_map f ys) (f x))

pub targets_next : (find : trees.Child → Option ℕ) (xs : List Item) (i : ℕ) (d : Item) (a b : List ℕ) → i < length xs → d ≡ get_or xs i d → a ≡ filter_map find (objects (items_of (take i xs))) → b ≡ a ++ filter_map find (object_in (item_of d)) → b ≡ filter_map find (objects (items_of (take (i + 1) xs)))
targets_next find xs i d a b lt is was now =
    let more : take (i + 1) xs ≡ take i xs ++ d ∷ [] = take_more xs i d lt ∙ ap (λ y. take i xs ++ y ∷ []) (sym is) in
    let last : objects (items_of (take (i + 1) xs)) ≡ objects (items_of (take i xs)) ++ object_in (item_of d) =
    ap (λ ys. objects (items_of ys)) more ∙ (ap objects (map_push item_of (take i xs) d) ∙ flat_push object_in (items_of (take i xs)) (item_of d))
    in
    now ∙ (ap (λ a. a ++ filter_map find (object_in (item_of d))) was
    ∙ (sym (filter_map-append find (objects (items_of (take i xs))) (object_in (item_of d)))
    ∙ ap (filter_map find) (sym last)))

-- ---- what a look-up gives of each of a list

as_list : {X : Type 0} (o : Option X) → cons_option o [] ≡ option_to_list o
as_list None = refl
as_list (Some x) = refl

pub look_ups_next : {X Y : Type 0} (f : X → Option Y) (xs : List X) (i : ℕ) (e : X) (a b : List Y) → i < length xs → a ≡ filter_map f (take i xs) → b ≡ a ++ option_to_list (f (get_or xs i e)) → b ≡ filter_map f (take (i + 1) xs)
look_ups_next f xs i e a b lt was now =
    let d = get_or xs i e in
    let more : take (i + 1) xs ≡ take i xs ++ get_or xs i e ∷ [] = take_more xs i e lt in
    now ∙ (ap (λ a. a ++ option_to_list (f d)) was
    ∙ (ap (λ o. filter_map f (take i xs) ++ o) (sym (as_list (f d)))
    ∙ (sym (filter_map-append f (take i xs) (d ∷ [])) ∙ ap (filter_map f) (sym more))))
