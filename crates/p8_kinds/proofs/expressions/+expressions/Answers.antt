use Rattle.std.proofs.Common.{◌≡◌, rules, arith, sym, ap, ◌∙◌, subst}
use Rattle.std.proofs.lemmas.Grind.{common_steps}
use Rattle.p8_tree.specs.Views.{form_of, tree_of, trees_of, item_of, items_of}
use Rattle.p8_tree.specs.Bridges.{strings_is, built_is, look_is}
use Rattle.p8_tree.specs.Faults.{first_of_two}
use Rattle.p8_fold.proofs.ValueRows.{call_form}
use Rattle.p8_kinds.specs.Environments.{environment_of}
use Rattle.p8_kinds.specs.FirstMisuses.{rule_of, first_in, first_inside, first_in_item, first_in_items, first_in_built, first_in_strings}
use Rattle.p8_kinds.proofs.Rows.{trees_next, items_next}
use Rattle.p8_kinds.proofs.expressions.+expressions.Goals as goal

pub first_in_call-returns : goal.first_in_call-returns
first_in_call-returns t c =
    subst (λ f. c.first_of_two.result ≡ first_inside (rule_of c.args.rules (environment_of c.args.scope.now)) f) (sym (call_form c.args.call.now)) (grind (arith, common_steps))

pub first_in_items-loop-item-preserved : goal.first_in_items-loop-item-preserved
first_in_items-loop-item-preserved t c =
    let r = rule_of c.args.rules (environment_of c.args.scope.now) in
    c.first_of_two-first.ensures ∙ ap (λ o. first_of_two o c.first_in_item.result) c.loop-item.invariant
    ∙ ap (first_of_two _) (c.first_in_item.ensures ∙ ap (λ x. first_in_item r (item_of x)) c.item-item.is)
    ∙ items_next r c.args.items.now c.loop-item.item-index c.item-item.result c.loop-item-test.true

pub first_in_trees-loop-tree-preserved : goal.first_in_trees-loop-tree-preserved
first_in_trees-loop-tree-preserved t c =
    let r = rule_of c.args.rules (environment_of c.args.scope.now) in
    c.first_of_two-first.ensures ∙ ap (λ o. first_of_two o c.first_in.result) c.loop-tree.invariant
    ∙ ap (first_of_two _) (c.first_in.ensures ∙ ap (λ e. first_in r (tree_of e)) c.tree-item.is)
    ∙ trees_next r c.args.trees.now c.loop-tree.tree-index c.tree-item.result c.loop-tree-test.true

pub first_inside-returns-in-Strings : goal.first_inside-returns-in-Strings
first_inside-returns-in-Strings t c =
    let r = rule_of c.args.rules (environment_of c.args.scope.now) in
    subst (λ f. c.first_in_strings.result ≡ first_inside r f) (sym (ap form_of c.in-Strings.is ∙ strings_is c.in-Strings.items))
    (c.first_in_strings.ensures ∙ ap (λ es. first_in_strings r (trees_of es)) c.deref.ensures.value)

pub first_inside-returns-in-Built : goal.first_inside-returns-in-Built
first_inside-returns-in-Built t c =
    let r = rule_of c.args.rules (environment_of c.args.scope.now) in
    subst (λ f. c.first_in_built.result ≡ first_inside r f) (sym (ap form_of c.in-Built.is ∙ built_is c.in-Built.code c.in-Built.arguments))
    (c.first_in_built.ensures ∙ ap (λ es. first_in_built r c.in-Built.code (trees_of es)) c.deref-in-Built.ensures.value)

pub first_inside-returns-in-Look : goal.first_inside-returns-in-Look
first_inside-returns-in-Look t c =
    let r = rule_of c.args.rules (environment_of c.args.scope.now) in
    let looked : c.first_in-in-Look.result ≡ first_in r (tree_of c.in-Look.value.value) = search rules in
    let items : c.first_in_items.result ≡ first_in_items r (items_of c.in-Look.items.items) = search rules in
    subst (λ f. c.first_of_two-in-Look.result ≡ first_inside r f) (sym (ap form_of c.in-Look.is ∙ look_is _ c.in-Look.value c.in-Look.items))
    (c.first_of_two-in-Look.ensures ∙ ap (λ o. first_of_two o c.first_in_items.result) looked ∙ ap (first_of_two _) items)
