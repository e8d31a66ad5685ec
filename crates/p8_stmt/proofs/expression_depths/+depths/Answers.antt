use Rattle.std.proofs.Common.{◌≡◌, ◌+◌, ◌-◌, ◌^◌, min, max, sym, ap, ap₂, ◌∙◌, length, rules}
use Rattle.p8_tree.specs.Expressions.{node, no_items, ◌▸◌}
use Rattle.p8_tree.specs.Views.{tree_of, form_of, trees_of, item_of, items_of}
use Rattle.p8_tree.specs.Bridges.{boxed_index}
use Rattle.p8_tree.specs.declared.expressions.Call.{out-Call}
use Rattle.p8_gen.specs.Depths.{over, held, held_by, held_by_index, held_by_trees, held_by_items, held_by_built, held_by_arguments}
use Rattle.p8_gen.specs.Scopes.{names_of}
use Rattle.p8_stmt.specs.Cutting.{cut}
use Rattle.p8_stmt.proofs.Depths.{cut_one, cut_max, cut_look, cut_over, cut_sum, most_next, trees_next, items_next, held_of_call, held_of_strings, held_of_built, held_of_look, call_held, arguments_of_call, built_constant, built_plain}
use Rattle.p8_stmt.proofs.expression_depths.+depths.Goals as goal

pub held_by_items-loop-item-preserved : goal.held_by_items-loop-item-preserved
held_by_items-loop-item-preserved t c =
    let n = names_of c.args.coder.now in
    most_next _ _ c.loop-item.invariant (c.held_by_item.ensures ∙ ap (λ x. cut (held_by_items n (no_items ▸ item_of x))) c.item-item.is) c.max-most.ensures
    ∙ ap cut (items_next n c.args.items.now c.loop-item.item-index c.item-item.result c.loop-item-test.true)

pub held_by_trees-loop-index-preserved : goal.held_by_trees-loop-index-preserved
held_by_trees-loop-index-preserved t c =
    let n = names_of c.args.coder.now in
    let i = c.loop-index.index in
    most_next _ _ c.loop-index.invariant
    (c.saturating_add.ensures ∙ ap₂ (λ a b. min (a + b) (2 ^ 16 - 1)) c.short.ensures (c.held.ensures ∙ ap (λ e. cut (held n (tree_of e))) c.index-arguments-index.is) ∙ cut_sum i _)
    c.max-most.ensures
    ∙ ap cut (trees_next n c.args.arguments.now i c.index-arguments-index.result c.loop-index-test.true)

pub held_by_arguments-returns-in-Call : goal.held_by_arguments-returns-in-Call
held_by_arguments-returns-in-Call t c =
    let n = names_of c.args.coder.now in
    let place = c.args.begun.now.place in
    c.held_by_trees.ensures
    ∙ ap cut (ap (λ es. held_by_trees n (trees_of es)) c.deref.ensures.value ∙ arguments_of_call n c.in-Call.call place ∙ sym (ap (λ k. held_by_arguments n (node place (form_of k))) c.in-Call.is))

pub held_by_built-returns-in-Constant : goal.held_by_built-returns-in-Constant
held_by_built-returns-in-Constant t c = ap cut (sym (built_constant (names_of c.args.coder.now) c.args.code c.args.arguments.now c.in-Constant.ensures))

pub held_by_built-returns-in-Plain : goal.held_by_built-returns-in-Plain
held_by_built-returns-in-Plain t c = c.held_by_trees.ensures ∙ ap cut (built_plain (names_of c.args.coder.now) c.args.code c.args.arguments.now c.in-Plain.ensures)

pub held-returns-in-Call : goal.held-returns-in-Call
held-returns-in-Call t c =
    let n = names_of c.args.coder.now in
    c.max-in-Call.ensures ∙ ap (λ k. max k 1) c.held_by_call.ensures ∙ cut_one _
    ∙ ap cut (held_of_call n c.in-Call.call ∙ sym (ap (λ k. held_by n (form_of k)) c.in-Call.is))

pub held-returns-in-Strings : goal.held-returns-in-Strings
held-returns-in-Strings t c =
    let n = names_of c.args.coder.now in
    ap cut (held_of_strings n c.in-Strings.field-0 ∙ sym (ap (λ k. held_by n (form_of k)) c.in-Strings.is))

pub held-returns-in-Built : goal.held-returns-in-Built
held-returns-in-Built t c =
    let n = names_of c.args.coder.now in
    c.max-in-Built.ensures ∙ ap (λ k. max k 1) (c.held_by_built.ensures ∙ ap (λ es. cut (held_by_built n c.in-Built.code (trees_of es))) c.deref-in-Built.ensures.value) ∙ cut_one _
    ∙ ap cut (held_of_built n c.in-Built.code c.in-Built.arguments ∙ sym (ap (λ k. held_by n (form_of k)) c.in-Built.is))

pub held-returns-in-Look : goal.held-returns-in-Look
held-returns-in-Look t c =
    let n = names_of c.args.coder.now in
    let sought : c.deref-in-Look.result.now ≡ c.in-Look.sought.value = search rules in
    c.max-in-Look-2.ensures
    ∙ ap₂ max (c.max-in-Look.ensures ∙ ap (λ k. max k 2) (c.held-in-Look.ensures ∙ ap (λ e. cut (held n (tree_of e))) sought))
    (c.held_by_items.ensures ∙ ap (λ xs. cut (held_by_items n (items_of xs))) c.deref-in-Look-2.ensures.value)
    ∙ cut_look _ _ ∙ ap cut (held_of_look n c.in-Look.field-0 c.in-Look.sought c.in-Look.items ∙ sym (ap (λ k. held_by n (form_of k)) c.in-Look.is))

pub held_by_call-returns : goal.held_by_call-returns
held_by_call-returns t c =
    let n = names_of c.args.coder.now in
    let behind = held_by_index n (boxed_index (out-Call c.args.call.now).index) in
    c.max.ensures
    ∙ ap₂ max c.held_by_trees.ensures (c.over.ensures behind c.held_by_index.ensures ∙ ap (λ k. cut (over k behind)) c.short-count.ensures ∙ cut_over (length c.as_slice.result.now) behind)
    ∙ cut_max _ _ ∙ ap cut (call_held n c.args.call.now c.deref.result.now c.as_slice.result.now c.deref.ensures.value c.as_slice.ensures.value)
