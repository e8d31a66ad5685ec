-- Items that are gone through one after the other.
use Rattle.std.proofs.Common.{◌≡◌, ◌⊎◌, ℕ, ◌+◌, ◌<◌, ◌≤◌, List, ◌∷◌, length, drop, get_or, Option, ap, sym, ◌∙◌, subst, arith}
use Rattle.std.specs.Prelude.{All}
use Rattle.std.proofs.lemmas.List.{length-map, get_or-map}
use Rattle.p8_tree.specs.declared.faults.Fault.{Fault}
use Rattle.p8_tree.specs.Faults.{first_of_two}
use Rattle.p8_constants.specs.declared.items.Item.{Item}
use Rattle.p8_constants.specs.FileItems as items
use Rattle.p8_constants.specs.Rules.{InAny}
use Rattle.p8_constants.specs.Standing.{item_of, items_of, IsFirstOf}
use Rattle.p8_constants.proofs.Listed.{rest_is, rest_is_empty}
use Rattle.p8_constants.proofs.FirstFaults.{IsSoFar, so_far_more, so_far_end}

pub rest_of : (xs : List Item) (i : ℕ) (x : Item) → i < length xs → x ≡ get_or xs i x → items_of (drop i xs) ≡ item_of x ∷ items_of (drop (i + 1) xs)
rest_of xs i x l e = ap items_of (rest_is xs i x l e)

-- a rule of each item by itself
pub any_more : (Rule : items.Item → Fault → Type 0) (xs : List Item) (i : ℕ) (x : Item) (found next : Option Fault) {now : Option Fault} → i < length xs → x ≡ get_or xs i x → IsSoFar (InAny Rule (items_of xs)) found (InAny Rule (items_of (drop i xs))) → IsFirstOf next (Rule (item_of x)) → now ≡ first_of_two found next → IsSoFar (InAny Rule (items_of xs)) now (InAny Rule (items_of (drop (i + 1) xs)))
any_more Rule xs i x found next l e h own is =
    let Left = InAny Rule (items_of (drop (i + 1) xs)) in
    let here : IsSoFar (InAny Rule (items_of xs)) found (λ g. Rule (item_of x) g ⊎ Left g) = subst (λ ys. IsSoFar (InAny Rule (items_of xs)) found (InAny Rule ys)) (rest_of xs i x l e) h in
    subst (λ o. IsSoFar (InAny Rule (items_of xs)) o Left) (sym is) (so_far_more found next here own)

pub any_end : (Rule : items.Item → Fault → Type 0) (xs : List Item) (i : ℕ) (found : Option Fault) → length xs ≤ i → IsSoFar (InAny Rule (items_of xs)) found (InAny Rule (items_of (drop i xs))) → IsFirstOf found (InAny Rule (items_of xs))
any_end Rule xs i found l h = so_far_end found (λ g r. subst (λ ys. InAny Rule (items_of ys) g) (rest_is_empty xs i l) r) h

-- what all items are, the one at hand is
pub item_is : (P : items.Item → Type 0) (xs : List Item) (i : ℕ) (x : Item) → All P (items_of xs) → i < length xs → x ≡ get_or xs i x → P (item_of x)
item_is P xs i x h l e =
    let within : i < length (items_of xs) = omega (arith, length-map xs item_of) in
    let at : get_or (items_of xs) i (item_of x) ≡ item_of x = get_or-map item_of xs i x (item_of x) l ∙ ap item_of (sym e) in
    subst P at (h i (item_of x) within)
