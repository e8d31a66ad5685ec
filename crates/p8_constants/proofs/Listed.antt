-- Lists that are made of items, one after the other.
use Rattle.std.proofs.Common.{◌≡◌, ℕ, ◌+◌, ◌<◌, ◌≤◌, List, [], ◌∷◌, ◌++◌, length, drop, get_or, Option, Some, None, refl, ap, sym, ◌∙◌, append_assoc, append-nil}
use Rattle.std.proofs.lemmas.List.{drop_more, drop_all}
use Rattle.p8_tree.specs.declared.places.Place.{Place}
use Rattle.p8_constants.specs.declared.items.Item.{Item}
use Rattle.p8_constants.specs.Names.{Defined, defined_before, names_of, name_of, place_of}
use Rattle.p8_constants.specs.Standing.{item_of, items_of}

-- what is left, with its first element
pub rest_is : {X : Type 0} (xs : List X) (i : ℕ) (x : X) → i < length xs → x ≡ get_or xs i x → drop i xs ≡ x ∷ drop (i + 1) xs
rest_is xs i x l e = drop_more xs i x l ∙ ap (λ y. y ∷ drop (i + 1) xs) (sym e)

-- nothing is left
pub rest_is_empty : {X : Type 0} (xs : List X) (i : ℕ) → length xs ≤ i → drop i xs ≡ []
rest_is_empty xs i l = drop_all i xs l

before_rest : (o : Option (List ℕ)) (p : Place) (rest : List Defined) → defined_before o p rest ≡ defined_before o p [] ++ rest
before_rest None p rest = refl
before_rest (Some n) p rest = refl

pub names_next : (xs : List Item) (i : ℕ) (x : Item) (all before after : List Defined) → i < length xs → x ≡ get_or xs i x → all ≡ before ++ names_of (items_of (drop i xs)) → after ≡ before ++ defined_before (name_of (item_of x)) (place_of (item_of x)) [] → all ≡ after ++ names_of (items_of (drop (i + 1) xs))
names_next xs i x all before after l e was is =
    let own = defined_before (name_of (item_of x)) (place_of (item_of x)) [] in
    let rest = names_of (items_of (drop (i + 1) xs)) in
    was ∙ ap (λ ys. before ++ names_of (items_of ys)) (rest_is xs i x l e)
    ∙ ap (λ ys. before ++ ys) (before_rest (name_of (item_of x)) (place_of (item_of x)) rest)
    ∙ sym (append_assoc before own rest)
    ∙ ap (λ ys. ys ++ rest) (sym is)

pub names_end : (xs : List Item) (i : ℕ) (all before : List Defined) → length xs ≤ i → all ≡ before ++ names_of (items_of (drop i xs)) → before ≡ all
names_end xs i all before l was = sym (was ∙ ap (λ ys. before ++ names_of (items_of ys)) (rest_is_empty xs i l) ∙ append-nil before)
