use Rattle.std.proofs.Common.{◌≡◌, ◌++◌, OnOk, sym, ap, ◌∙◌, subst, arith}
use Rattle.std.proofs.lemmas.Grind.{common_steps}
use Rattle.p8_tree.specs.Views.{form_of}
use Rattle.p8_tree.specs.Bridges.{look_is}
use Rattle.p8_fold.proofs.ValueRows.{call_form}
use Rattle.p8_hint.specs.Spots.{in_form}
use Rattle.p8_hint.specs.SpotViews.{spots_of}
use Rattle.p8_hint.proofs.Rows.{trees_next, items_next, strings_spots, built_spots}
use Rattle.p8_hint.proofs.expressions.+expressions.Goals as goal

pub put_call-returns : goal.put_call-returns
put_call-returns t c =
    subst (λ f. OnOk c.put_trees.result (spots_of c.put_trees.new.spots.items ≡ spots_of c.args.spots.now.items ++ in_form f)) (sym (call_form c.args.call.now)) (grind (arith, common_steps))

pub put_tree-returns-in-Strings : goal.put_tree-returns-in-Strings
put_tree-returns-in-Strings t c =
    subst (λ m. OnOk c.put_trees.result (spots_of c.put_trees.new.spots.items ≡ spots_of c.args.spots.now.items ++ m)) (sym (ap (λ k. in_form (form_of k)) c.in-Strings.is ∙ strings_spots c.in-Strings.items)) (grind (arith, common_steps))

pub put_tree-returns-in_ok-put_trees-in-Built : goal.put_tree-returns-in_ok-put_trees-in-Built
put_tree-returns-in_ok-put_trees-in-Built t c =
    subst (λ m. OnOk c.put_built.result (spots_of c.put_built.new.spots.items ≡ spots_of c.args.spots.now.items ++ m)) (sym (ap (λ k. in_form (form_of k)) c.in-Built.is ∙ built_spots _ c.in-Built.arguments)) (grind (arith, common_steps))

pub put_tree-returns-in_ok-put_tree-in-Look : goal.put_tree-returns-in_ok-put_tree-in-Look
put_tree-returns-in_ok-put_tree-in-Look t c =
    subst (λ f. OnOk c.put_items.result (spots_of c.put_items.new.spots.items ≡ spots_of c.args.spots.now.items ++ in_form f)) (sym (ap form_of c.in-Look.is ∙ look_is _ c.in-Look.value c.in-Look.items)) (grind (arith, common_steps))

pub put_trees-loop-tree-preserved : goal.put_trees-loop-tree-preserved
put_trees-loop-tree-preserved t c =
    trees_next c.args.trees.now c.loop-tree.tree-index c.tree-item.result (spots_of c.args.spots.now.items) (spots_of c.loop-tree.spots.items) c.loop-tree-test.true c.tree-item.is c.loop-tree.invariant c.in_ok-put_tree.ensures

pub put_items-loop-item-preserved : goal.put_items-loop-item-preserved
put_items-loop-item-preserved t c =
    items_next c.args.items.now c.loop-item.item-index c.item-item.result (spots_of c.args.spots.now.items) (spots_of c.loop-item.spots.items) c.loop-item-test.true c.item-item.is c.loop-item.invariant c.in_ok-put_item.ensures
