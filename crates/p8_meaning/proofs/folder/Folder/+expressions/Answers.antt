use Rattle.std.proofs.Common.{◌≡◌, rules, ap, ap₂, ◌∙◌}
use Rattle.p8_tree.specs.Views.{tree_of, items_of, item_of, form_of}
use Rattle.p8_meaning.specs.Folding.{tree_with, item_with, items_with}
use Rattle.p8_meaning.specs.Known.{number_by, shorter_known}
use Rattle.p8_meaning.specs.Copies.{constants_of, with_number}
use Rattle.p8_meaning.proofs.Trees.{reduced-is, trees-next, items-next, call-is, copied-as, known-as, strings-form, strings-known, built-form, look-form, call-known}
use Rattle.p8_meaning.proofs.folder.Folder.+expressions.Goals as goal

pub expression-returns-clause-tree : goal.expression-returns-clause-tree
expression-returns-clause-tree t c =
    c.reduced.ensures.tree ∙ ap₂ (λ o t. with_number (shorter_known o) t) c.in_ok-copy.ensures.known c.in_ok-copy.ensures.tree
    ∙ reduced-is c.args.numbers (constants_of c.args.self.now) c.args.expr.now.place (form_of c.args.expr.now.kind)

pub call-returns : goal.call-returns
call-returns t c =
    call-is (number_by c.args.numbers (constants_of c.args.self.now)) c.args.call.now c.in_ok-object.object c.in_ok-index.index c.in_ok-method.method c.in_ok-args.args c.deref.result.now
    c.in_ok-object.ensures c.in_ok-index.ensures (c.in_ok-method.ensures ∙ c.as_slice.ensures) c.deref.ensures.value c.in_ok-args.ensures

pub expressions-loop-tree-preserved : goal.expressions-loop-tree-preserved
expressions-loop-tree-preserved t c =
    let number = number_by c.args.numbers (constants_of c.args.self.now) in
    trees-next number c.args.trees.now c.loop-tree.tree-index c.tree-item.result c.loop-tree.copies.items c.push.new.self.items c.into_tree.result c.loop-tree-test.true c.loop-tree.invariant
    (c.into_tree.ensures ∙ c.in_ok-copy.ensures.tree ∙ ap (λ e. tree_with number (tree_of e)) c.tree-item.is) c.in_ok-push.ensures.items

pub items-loop-item-preserved : goal.items-loop-item-preserved
items-loop-item-preserved t c =
    let number = number_by c.args.numbers (constants_of c.args.self.now) in
    items-next number c.args.items.now c.loop-item.item-index c.item-item.result c.loop-item.copies.items c.push.new.self.items c.in_ok-item.field-0 c.loop-item-test.true c.loop-item.invariant
    (c.in_ok-item.ensures ∙ ap (λ x. item_with number (item_of x)) c.item-item.is) c.in_ok-push.ensures.items

pub form-returns-in_ok-call-in-Call-clause-known : goal.form-returns-in_ok-call-in-Call-clause-known
form-returns-in_ok-call-in-Call-clause-known t c =
    known-as c.new-in-Call.result _ _ (call-known c.args.numbers (constants_of c.args.self.now) c.args.place c.args.kind.now c.in-Call.call c.in-Call.is) c.new-in-Call.ensures.known

pub form-returns-in_ok-items-in-Strings-clause-tree : goal.form-returns-in_ok-items-in-Strings-clause-tree
form-returns-in_ok-items-in-Strings-clause-tree t c =
    copied-as c.strings.result _ _
    (strings-form c.args.numbers (constants_of c.args.self.now) c.args.place c.args.kind.now c.in-Strings.items c.in_ok-items-in-Strings.items c.deref.result.now c.in-Strings.is
    c.deref.ensures.value c.in_ok-items-in-Strings.ensures)
    c.strings.ensures.tree

pub form-returns-in_ok-items-in-Strings-clause-known : goal.form-returns-in_ok-items-in-Strings-clause-known
form-returns-in_ok-items-in-Strings-clause-known t c =
    known-as c.strings.result _ _ (strings-known c.args.numbers (constants_of c.args.self.now) c.args.place c.args.kind.now c.in-Strings.items c.in-Strings.is) c.strings.ensures.known

pub form-returns-in_ok-arguments-in-Built-clause-tree : goal.form-returns-in_ok-arguments-in-Built-clause-tree
form-returns-in_ok-arguments-in-Built-clause-tree t c =
    copied-as c.built.result _ _
    (built-form c.args.numbers c.for_arguments-inside.result (constants_of c.args.self.now) c.args.place c.in-Built.code c.args.kind.now c.in-Built.arguments c.in_ok-arguments-in-Built.arguments
    c.as_slice.result.now c.deref-in-Built.result.now c.in-Built.is c.as_slice.ensures.value c.deref-in-Built.ensures.value c.for_arguments-inside.ensures c.in_ok-arguments-in-Built.ensures)
    c.built.ensures.tree

pub form-returns-in_ok-items-in-Look-clause-tree : goal.form-returns-in_ok-items-in-Look-clause-tree
form-returns-in_ok-items-in-Look-clause-tree t c =
    let number = number_by c.args.numbers (constants_of c.args.self.now) in
    let value : tree_of c.in_ok-value-in-Look.value.tree.value ≡ tree_with number (tree_of c.in-Look.value.value) = search rules in
    let items : items_of c.in_ok-items-in-Look.items.items ≡ items_with number (items_of c.in-Look.items.items) = search rules in
    copied-as c.look.result _ _ (look-form number c.args.place c.in-Look.code c.args.kind.now c.in-Look.value c.in-Look.items c.in_ok-items-in-Look.items _ c.in-Look.is value items) c.look.ensures.tree
