-- The names in trees and items one after the other, and a name is among them exactly where it stands in the expression.
use Rattle.std.proofs.Common.{◌≡◌, ℕ, ◌+◌, ◌<◌, List, ◌++◌, length, take, get_or, sym, ap, ◌∙◌, append_assoc}
use Rattle.std.proofs.lemmas.List.{take_more}
use Rattle.p8_tree.specs.declared.expressions.Expr as expr
use Rattle.p8_tree.specs.declared.expressions.Item as item
use Rattle.p8_tree.specs.Views.{tree_of, trees_of, item_of, items_of}
use Rattle.p8_tree.specs.Bridges.{trees_of-push, items_of-push}
use Rattle.p8_constants.specs.Mentions.{mentioned, item_mentioned, trees_mentioned, items_mentioned}

pub trees_next : (xs : List expr.Expr) (i : ℕ) (d : expr.Expr) (a b : List (List ℕ)) {c : List (List ℕ)} → i < length xs → d ≡ get_or xs i d → b ≡ a ++ trees_mentioned (trees_of (take i xs)) → c ≡ b ++ mentioned (tree_of d) → c ≡ a ++ trees_mentioned (trees_of (take (i + 1) xs))
trees_next xs i d a b lt at before now =
    now ∙ ap (λ b. b ++ mentioned (tree_of d)) before ∙ append_assoc a (trees_mentioned (trees_of (take i xs))) (mentioned (tree_of d))
    ∙ ap (λ d. a ++ (trees_mentioned (trees_of (take i xs)) ++ mentioned (tree_of d))) at
    ∙ ap (λ es. a ++ trees_mentioned es) (sym (trees_of-push (take i xs) (get_or xs i d)))
    ∙ ap (λ ys. a ++ trees_mentioned (trees_of ys)) (sym (take_more xs i d lt))

pub items_next : (xs : List item.Item) (i : ℕ) (d : item.Item) (a b : List (List ℕ)) {c : List (List ℕ)} → i < length xs → d ≡ get_or xs i d → b ≡ a ++ items_mentioned (items_of (take i xs)) → c ≡ b ++ item_mentioned (item_of d) → c ≡ a ++ items_mentioned (items_of (take (i + 1) xs))
items_next xs i d a b lt at before now =
    now ∙ ap (λ b. b ++ item_mentioned (item_of d)) before ∙ append_assoc a (items_mentioned (items_of (take i xs))) (item_mentioned (item_of d))
    ∙ ap (λ d. a ++ (items_mentioned (items_of (take i xs)) ++ item_mentioned (item_of d))) at
    ∙ ap (λ es. a ++ items_mentioned es) (sym (items_of-push (take i xs) (get_or xs i d)))
    ∙ ap (λ ys. a ++ items_mentioned (items_of ys)) (sym (take_more xs i d lt))
