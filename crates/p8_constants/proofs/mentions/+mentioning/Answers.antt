use Rattle.std.proofs.Common.{◌≡◌, ◌++◌, OnOk, sym, ap, ◌∙◌, subst, arith}
use Rattle.std.proofs.lemmas.Grind.{common_steps}
use Rattle.p8_tree.specs.Views.{form_of}
use Rattle.p8_tree.specs.Bridges.{strings_is, built_is, look_is}
use Rattle.p8_fold.proofs.ValueRows.{call_form}
use Rattle.p8_constants.specs.Mentions.{form_mentioned}
use Rattle.p8_constants.proofs.Mentioned.{trees_next, items_next}
use Rattle.p8_constants.proofs.mentions.+mentioning.Goals as goal

pub in_call-returns : goal.in_call-returns
in_call-returns t c =
    subst (λ f. OnOk c.in_trees.result (c.in_trees.new.names ≡ c.args.names.now ++ form_mentioned f)) (sym (call_form c.args.call.now)) (grind (arith, common_steps))

pub in_expr-returns-in-Strings : goal.in_expr-returns-in-Strings
in_expr-returns-in-Strings t c =
    subst (λ f. OnOk c.in_trees-in-Strings.result (c.in_trees-in-Strings.new.names ≡ c.args.names.now ++ form_mentioned f)) (sym (ap form_of c.in-Strings.is ∙ strings_is c.in-Strings.items)) (grind (arith, common_steps))

pub in_expr-returns-in-Built : goal.in_expr-returns-in-Built
in_expr-returns-in-Built t c =
    subst (λ f. OnOk c.in_trees.result (c.in_trees.new.names ≡ c.args.names.now ++ form_mentioned f)) (sym (ap form_of c.in-Built.is ∙ built_is _ c.in-Built.arguments)) (grind (arith, common_steps))

pub in_expr-returns-in_ok-in_expr-in-Look : goal.in_expr-returns-in_ok-in_expr-in-Look
in_expr-returns-in_ok-in_expr-in-Look t c =
    subst (λ f. OnOk c.in_items.result (c.in_items.new.names ≡ c.args.names.now ++ form_mentioned f)) (sym (ap form_of c.in-Look.is ∙ look_is _ c.in-Look.value c.in-Look.items)) (grind (arith, common_steps))

pub in_trees-loop-tree-preserved : goal.in_trees-loop-tree-preserved
in_trees-loop-tree-preserved t c =
    trees_next c.args.trees.now c.loop-tree.tree-index c.tree-item.result c.args.names.now c.loop-tree.names c.loop-tree-test.true c.tree-item.is c.loop-tree.invariant c.in_ok-in_expr.ensures

pub in_items-loop-item-preserved : goal.in_items-loop-item-preserved
in_items-loop-item-preserved t c =
    items_next c.args.items.now c.loop-item.item-index c.item-item.result c.args.names.now c.loop-item.names c.loop-item-test.true c.item-item.is c.loop-item.invariant c.in_ok-in_item.ensures
