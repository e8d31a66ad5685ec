-- What the trees and the items of a list give, one after the other; and a call, a built-in and a LOOK as the code has them.
use Rattle.std.proofs.Common.{◌≡◌, ℕ, ◌+◌, ◌<◌, None, refl, List, [], ◌∷◌, ◌++◌, length, take, get_or, sym, ap, ◌∙◌}
use Rattle.std.proofs.lemmas.List.{take_more}
use Rattle.std.specs.Result.{result_err}
use Rattle.p8_tree.specs.declared.expressions.Expr as expr
use Rattle.p8_tree.specs.declared.expressions.Item as item
use Rattle.p8_tree.specs.declared.expressions.Call as call
use Rattle.p8_tree.specs.declared.expressions.Call.{out-Call, roll-out-Call}
use Rattle.p8_tree.specs.Expressions.{Tree, Call, Trees, no_trees, ◌▷◌}
use Rattle.p8_tree.specs.Views.{call_of, tree_of, trees_of, trees_after, item_of, items_of}
use Rattle.p8_tree.specs.Bridges.{boxed_index, call_is, trees_of-push, items_of-push}
use Rattle.p8_tree.specs.Faults.{first_of_two}
use Rattle.p8_fold.specs.Meanings.{Setting}
use Rattle.p8_fold.specs.Values.{string_of, text_of_items, characters, value}
use Rattle.p8_fold.specs.Verdicts.{verdict_of_one, verdict, first_in_item, first_in_trees, first_in_items, first_of_item, first_in_text}

pub call_form : (x : call.Call) → call_of x ≡ Call (out-Call x).trap (out-Call x).object (boxed_index (out-Call x).index) (out-Call x).method (out-Call x).method_place (trees_of (out-Call x).args.items)
call_form x = ap call_of (sym (roll-out-Call x)) ∙ call_is (out-Call x).trap (out-Call x).object (out-Call x).index (out-Call x).method (out-Call x).method_place (out-Call x).args

pub trees_next : (s : Setting) (xs : List expr.Expr) (i : ℕ) (d : expr.Expr) → i < length xs → first_of_two (first_in_trees s (trees_of (take i xs))) (result_err (verdict s (tree_of (get_or xs i d)))) ≡ first_in_trees s (trees_of (take (i + 1) xs))
trees_next s xs i d lt =
    sym (ap (λ es. first_in_trees s (trees_of es)) (take_more xs i d lt) ∙ ap (first_in_trees s) (trees_of-push (take i xs) (get_or xs i d)))

pub items_next : (s : Setting) (xs : List item.Item) (i : ℕ) (d : item.Item) → i < length xs → first_of_two (first_in_items s (items_of (take i xs))) (first_in_item s (item_of (get_or xs i d))) ≡ first_in_items s (items_of (take (i + 1) xs))
items_next s xs i d lt =
    sym (ap (λ es. first_in_items s (items_of es)) (take_more xs i d lt) ∙ ap (first_in_items s) (items_of-push (take i xs) (get_or xs i d)))

pub text_faults_next : (s : Setting) (xs : List expr.Expr) (i : ℕ) (d : expr.Expr) → i < length xs → first_of_two (first_in_text s (trees_of (take i xs))) (first_of_item s (string_of (tree_of (get_or xs i d))) (tree_of (get_or xs i d))) ≡ first_in_text s (trees_of (take (i + 1) xs))
text_faults_next s xs i d lt =
    sym (ap (λ es. first_in_text s (trees_of es)) (take_more xs i d lt) ∙ ap (first_in_text s) (trees_of-push (take i xs) (get_or xs i d)))

pub text_next : (s : Setting) (xs : List expr.Expr) (i : ℕ) (d : expr.Expr) → i < length xs → text_of_items s (trees_of (take i xs)) ++ characters (string_of (tree_of (get_or xs i d))) (value s (tree_of (get_or xs i d))) ≡ text_of_items s (trees_of (take (i + 1) xs))
text_next s xs i d lt =
    sym (ap (λ es. text_of_items s (trees_of es)) (take_more xs i d lt) ∙ ap (text_of_items s) (trees_of-push (take i xs) (get_or xs i d)))

-- two trees or more, by the last two
data Several : Trees → Type 0 where
  several : (es : Trees) (d e : Tree) → Several ((es ▷ d) ▷ e)

several_after : (es : Trees) (d e : Tree) (xs : List expr.Expr) → Several (trees_after ((es ▷ d) ▷ e) xs)
several_after es d e [] = several es d e
several_after es d e (x ∷ xs) = several_after (es ▷ d) e (tree_of x) xs

not_one_of : {es : Trees} (s : Setting) → Several es → verdict_of_one s es ≡ None
not_one_of s (several es d e) = refl

pub not_one : (s : Setting) (xs : List expr.Expr) → ¬ (length xs ≡ 1) → verdict_of_one s (trees_of xs) ≡ None
not_one s [] h = refl
not_one s (x ∷ []) h = absurd (h refl)
not_one s (x ∷ y ∷ xs) h = not_one_of s (several_after no_trees (tree_of x) (tree_of y) xs)
