use Rattle.std.proofs.Common.{◌≡◌, Err, rules, arith, sym, ap, ◌∙◌, subst}
use Rattle.std.specs.Result.{result_err}
use Rattle.std.proofs.lemmas.Grind.{common_steps}
use Rattle.p8_tree.specs.Views.{form_of, tree_of, trees_of, item_of, items_of}
use Rattle.p8_tree.specs.Bridges.{strings_is, built_is, look_is}
use Rattle.p8_tree.specs.Faults.{fault, with_further, first_of_two}
use Rattle.p8_tree.specs.declared.refusal.Refusal.TheVariants.{NotConstant}
use Rattle.p8_fold.specs.ConstantEntries.{setting_of}
use Rattle.p8_fold.specs.Verdicts.{verdict_of_form, verdict, first_in_item, first_in_items, built, first_in_trees}
use Rattle.p8_fold.proofs.ValueRows.{call_form, trees_next, items_next, not_one}
use Rattle.p8_fold.proofs.folding.+folding.Goals as goal

pub first_in_call-returns : goal.first_in_call-returns
first_in_call-returns t c =
    subst (λ f. Err c.with_further.result ≡ verdict_of_form (setting_of c.args.consts.now) c.args.place f) (sym (call_form c.args.call.now)) (grind (arith, common_steps))

pub first_in_items-loop-item-preserved : goal.first_in_items-loop-item-preserved
first_in_items-loop-item-preserved t c =
    let s = setting_of c.args.consts.now in
    c.first_of_two-first.ensures ∙ ap (λ o. first_of_two o c.first_in_item.result) c.loop-item.invariant
    ∙ ap (first_of_two _) (c.first_in_item.ensures ∙ ap (λ x. first_in_item s (item_of x)) c.item-item.is)
    ∙ items_next s c.args.items.now c.loop-item.item-index c.item-item.result c.loop-item-test.true

pub first_in_trees-loop-tree-preserved : goal.first_in_trees-loop-tree-preserved
first_in_trees-loop-tree-preserved t c =
    let s = setting_of c.args.consts.now in
    c.first_of_two-first.ensures ∙ ap (λ o. first_of_two o c.err.result) c.loop-tree.invariant
    ∙ ap (first_of_two _) (c.err.ensures.value ∙ ap result_err (c.verdict.ensures ∙ ap (λ e. verdict s (tree_of e)) c.tree-item.is))
    ∙ trees_next s c.args.trees.now c.loop-tree.tree-index c.tree-item.result c.loop-tree-test.true

pub verdict-returns-in-Strings : goal.verdict-returns-in-Strings
verdict-returns-in-Strings t c =
    let s = setting_of c.args.consts.now in
    let p = c.args.expr.now.place in
    let items : c.first_in_trees.result ≡ first_in_trees s (trees_of c.in-Strings.items.items) = c.first_in_trees.ensures ∙ ap (λ es. first_in_trees s (trees_of es)) c.deref.ensures.value in
    subst (λ f. Err c.with_further.result ≡ verdict_of_form s p f) (sym (ap form_of c.in-Strings.is ∙ strings_is c.in-Strings.items))
    (ap Err (c.with_further.ensures ∙ ap (λ f. with_further f c.first_in_trees.result) c.not_constant-own.ensures ∙ ap (with_further _) items))

pub verdict-returns-in-Built : goal.verdict-returns-in-Built
verdict-returns-in-Built t c =
    subst (λ f. c.verdict_of_built.result ≡ verdict_of_form (setting_of c.args.consts.now) c.args.expr.now.place f) (sym (ap form_of c.in-Built.is ∙ built_is c.in-Built.code c.in-Built.arguments)) (grind (arith, common_steps))

pub verdict-returns-in-Look : goal.verdict-returns-in-Look
verdict-returns-in-Look t c =
    let s = setting_of c.args.consts.now in
    let p = c.args.expr.now.place in
    let looked : c.verdict-in-Look.result ≡ verdict s (tree_of c.in-Look.value.value) = search rules in
    let items : c.first_in_items.result ≡ first_in_items s (items_of c.in-Look.items.items) = search rules in
    let own : c.with_further-own.result ≡ with_further (fault NotConstant p) (result_err (verdict s (tree_of c.in-Look.value.value))) =
    c.with_further-own.ensures ∙ ap (λ f. with_further f c.err-in-Look.result) c.not_constant-in-Look.ensures ∙ ap (with_further (fault NotConstant p)) (c.err-in-Look.ensures.value ∙ ap result_err looked) in
    subst (λ f. Err c.with_further-in-Look.result ≡ verdict_of_form s p f) (sym (ap form_of c.in-Look.is ∙ look_is _ c.in-Look.value c.in-Look.items))
    (ap Err (c.with_further-in-Look.ensures ∙ ap (λ f. with_further f c.first_in_items.result) own ∙ ap (with_further _) items))

pub verdict_of_built-returns-else-arguments-eq1 : goal.verdict_of_built-returns-else-arguments-eq1
verdict_of_built-returns-else-arguments-eq1 t c =
    let s = setting_of c.args.consts.now in
    let refused : Err c.with_further.result ≡ Err (with_further (fault NotConstant c.args.place) (first_in_trees s (trees_of c.args.arguments.now))) =
    ap Err (c.with_further.ensures ∙ ap (λ f. with_further f c.first_in_trees.result) c.not_constant.ensures ∙ ap (with_further _) c.first_in_trees.ensures) in
    subst (λ o. Err c.with_further.result ≡ built c.args.code o (Err (with_further (fault NotConstant c.args.place) (first_in_trees s (trees_of c.args.arguments.now))))) (sym (not_one s c.args.arguments.now (λ one. omega arith))) refused
