use Rattle.std.proofs.Common.{◌≡◌, ◌++◌, OnOk, refl, sym, ap, ◌∙◌, subst, arith}
use Rattle.std.proofs.lemmas.Grind.{common_steps}
use Rattle.p8_tree.specs.Views.{form_of}
use Rattle.p8_tree.specs.Bridges.{strings_is, built_is, look_is}
use Rattle.p8_fold.proofs.ValueRows.{call_form}
use Rattle.p8_build.specs.Strings.{in_form}
use Rattle.p8_build.specs.Views.{texts_of}
use Rattle.p8_build.proofs.Rows.{one_string, trees_next, items_next}
use Rattle.p8_build.proofs.expressions.+expressions.Goals as goal

pub put_call-returns : goal.put_call-returns
put_call-returns t c = λ place.
    subst (λ f. OnOk c.put_trees.result (texts_of c.put_trees.new.texts.items ≡ texts_of c.args.texts.now.items ++ in_form place f)) (sym (call_form c.args.call.now)) (grind (arith, common_steps))

pub put_tree-returns-in-Str : goal.put_tree-returns-in-Str
put_tree-returns-in-Str t c =
    subst (λ m. OnOk c.put_string.result (texts_of c.put_string.new.texts.items ≡ texts_of c.args.texts.now.items ++ m))
    (one_string c.args.expr.now.place c.args.expr.now.kind _ (ap form_of c.in-Str.is) refl) c.put_string.ensures

pub put_tree-returns-in-Strings : goal.put_tree-returns-in-Strings
put_tree-returns-in-Strings t c =
    subst (λ m. OnOk c.put_string-in-Strings.result (texts_of c.put_string-in-Strings.new.texts.items ≡ texts_of c.args.texts.now.items ++ m))
    (one_string c.args.expr.now.place c.args.expr.now.kind _ (ap form_of c.in-Strings.is ∙ strings_is c.in-Strings.field-0) refl) c.put_string-in-Strings.ensures

pub put_tree-returns-in-Built : goal.put_tree-returns-in-Built
put_tree-returns-in-Built t c =
    subst (λ f. OnOk c.put_trees.result (texts_of c.put_trees.new.texts.items ≡ texts_of c.args.texts.now.items ++ in_form c.args.expr.now.place f)) (sym (ap form_of c.in-Built.is ∙ built_is _ c.in-Built.arguments)) (grind (arith, common_steps))

pub put_tree-returns-in_ok-put_tree-in-Look : goal.put_tree-returns-in_ok-put_tree-in-Look
put_tree-returns-in_ok-put_tree-in-Look t c =
    subst (λ f. OnOk c.put_items.result (texts_of c.put_items.new.texts.items ≡ texts_of c.args.texts.now.items ++ in_form c.args.expr.now.place f)) (sym (ap form_of c.in-Look.is ∙ look_is _ c.in-Look.value c.in-Look.items)) (grind (arith, common_steps))

pub put_trees-loop-tree-preserved : goal.put_trees-loop-tree-preserved
put_trees-loop-tree-preserved t c =
    trees_next c.args.trees.now c.loop-tree.tree-index c.tree-item.result (texts_of c.args.texts.now.items) (texts_of c.loop-tree.texts.items) c.loop-tree-test.true c.tree-item.is c.loop-tree.invariant c.in_ok-put_tree.ensures

pub put_items-loop-item-preserved : goal.put_items-loop-item-preserved
put_items-loop-item-preserved t c =
    items_next c.args.items.now c.loop-item.item-index c.item-item.result (texts_of c.args.texts.now.items) (texts_of c.loop-item.texts.items) c.loop-item-test.true c.item-item.is c.loop-item.invariant c.in_ok-put_item.ensures
