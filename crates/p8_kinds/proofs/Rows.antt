-- Rows of a tree, and the faults of what has to be constant.
use Rattle.std.proofs.lemmas.Bool.Decides.{nat_tests}
use Rattle.std.proofs.Common.{arith, ◌≡◌, ℕ, ◌+◌, ◌<◌, List, length, take, get_or, Option, Some, None, Result, Ok, Err, sym, ap, ◌∙◌, refl}
use Rattle.std.specs.Prelude.{OnOk, IfErr}
use Rattle.std.specs.Result.{result_err}
use Rattle.std.proofs.lemmas.List.{take_more, length-map}
use Rattle.p8_tree.specs.declared.expressions.Expr as expr
use Rattle.p8_tree.specs.declared.expressions.Item as item
use Rattle.p8_tree.specs.Lists.{count_of_trees}
use Rattle.p8_tree.specs.Views.{tree_of, trees_of, item_of, items_of}
use Rattle.p8_tree.specs.Bridges.{trees_of-push, items_of-push, tree_list_of}
use Rattle.p8_tree.specs.declared.faults.Fault.{Fault}
use Rattle.p8_tree.specs.Faults.{IsFirstFault, first_of_two}
use Rattle.p8_fold.proofs.Judging.{Tells}
use Rattle.p8_kinds.specs.Misuses.{Rule}
use Rattle.p8_kinds.specs.FirstMisuses.{first_in, first_in_item, first_in_trees, first_in_items}

pub count_is : (es : List expr.Expr) → count_of_trees (trees_of es) ≡ length es
count_is es = ap length (tree_list_of es) ∙ length-map es tree_of

pub trees_next : (r : Rule) (xs : List expr.Expr) (i : ℕ) (d : expr.Expr) → i < length xs → first_of_two (first_in_trees r (trees_of (take i xs))) (first_in r (tree_of (get_or xs i d))) ≡ first_in_trees r (trees_of (take (i + 1) xs))
trees_next r xs i d lt =
    sym (ap (λ es. first_in_trees r (trees_of es)) (take_more xs i d lt) ∙ ap (first_in_trees r) (trees_of-push (take i xs) (get_or xs i d)))

pub items_next : (r : Rule) (xs : List item.Item) (i : ℕ) (d : item.Item) → i < length xs → first_of_two (first_in_items r (items_of (take i xs))) (first_in_item r (item_of (get_or xs i d))) ≡ first_in_items r (items_of (take (i + 1) xs))
items_next r xs i d lt =
    sym (ap (λ es. first_in_items r (items_of es)) (take_more xs i d lt) ∙ ap (first_in_items r) (items_of-push (take i xs) (get_or xs i d)))

-- a set has at most one first fault
one_first : (S : Fault → Type 0) (f g : Fault) → IsFirstFault S f → IsFirstFault S g → f ≡ g
one_first S f g s t = grind (arith, nat_tests)

-- two ways to tell a set's first fault
pub told_alike : (S : Fault → Type 0) (r : Result ℕ Fault) (o : Option Fault) → OnOk r ((f : Fault) → ¬ S f) → IfErr r (IsFirstFault S) → Tells o S → result_err r ≡ o
told_alike S (Ok v) None clean refused t = refl
told_alike S (Ok v) (Some f) clean refused t = absurd (clean f t.holds)
told_alike S (Err f) None clean refused t = absurd (t f refused.holds)
told_alike S (Err f) (Some g) clean refused t = ap Some (one_first S f g refused t)
