use Rattle.std.proofs.Common.{◌≡◌, rules, arith, sym, ap, ◌∙◌, subst}
use Rattle.std.proofs.lemmas.Grind.{common_steps}
use Rattle.std.specs.Option.{option_or}
use Rattle.p8_tree.specs.Views.{form_of, tree_of, trees_of, item_of, items_of}
use Rattle.p8_tree.specs.Bridges.{built_is, look_is}
use Rattle.p8_fold.proofs.ValueRows.{call_form}
use Rattle.p8_build.specs.Arguments.{told_in, told_inside, in_item, in_items, in_trees}
use Rattle.p8_build.specs.Searching.{search_of}
use Rattle.p8_build.proofs.Called.{trees_next, items_next}
use Rattle.p8_build.proofs.calls.+calls.Goals as goal

pub in_call-returns : goal.in_call-returns
in_call-returns t c =
    subst (λ f. c.or.result ≡ told_inside (search_of c.args.sought.now) f) (sym (call_form c.args.call.now)) (grind (arith, common_steps))

pub in_trees-loop-tree-preserved : goal.in_trees-loop-tree-preserved
in_trees-loop-tree-preserved t c =
    let s = search_of c.args.sought.now in
    c.or-first.ensures ∙ ap (λ o. option_or o c.told_in.result) c.loop-tree.invariant
    ∙ ap (option_or _) (c.told_in.ensures ∙ ap (λ e. told_in s (tree_of e)) c.tree-item.is)
    ∙ trees_next s c.args.trees.now c.loop-tree.tree-index c.tree-item.result c.loop-tree-test.true

pub in_items-loop-item-preserved : goal.in_items-loop-item-preserved
in_items-loop-item-preserved t c =
    let s = search_of c.args.sought.now in
    c.or-first.ensures ∙ ap (λ o. option_or o c.in_item.result) c.loop-item.invariant
    ∙ ap (option_or _) (c.in_item.ensures ∙ ap (λ x. in_item s (item_of x)) c.item-item.is)
    ∙ items_next s c.args.items.now c.loop-item.item-index c.item-item.result c.loop-item-test.true

pub told_inside-returns-in-Built : goal.told_inside-returns-in-Built
told_inside-returns-in-Built t c =
    let s = search_of c.args.sought.now in
    subst (λ f. c.in_trees.result ≡ told_inside s f) (sym (ap form_of c.in-Built.is ∙ built_is _ c.in-Built.arguments))
    (c.in_trees.ensures ∙ ap (λ es. in_trees s (trees_of es)) c.deref-in-Built.ensures.value)

pub told_inside-returns-in-Look : goal.told_inside-returns-in-Look
told_inside-returns-in-Look t c =
    let s = search_of c.args.sought.now in
    let looked : c.told_in-in-Look.result ≡ told_in s (tree_of c.in-Look.value.value) = search rules in
    let items : c.in_items.result ≡ in_items s (items_of c.in-Look.items.items) = search rules in
    subst (λ f. c.or-in-Look.result ≡ told_inside s f) (sym (ap form_of c.in-Look.is ∙ look_is _ c.in-Look.value c.in-Look.items))
    (c.or-in-Look.ensures ∙ ap (λ o. option_or o c.in_items.result) looked ∙ ap (option_or _) items)
