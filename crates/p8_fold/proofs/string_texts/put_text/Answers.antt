use Rattle.std.proofs.Common.{ℕ, List, ◌∙◌, ◌++◌, ap, append_assoc, take}
use Rattle.p8_tree.specs.declared.expressions.Expr as expr
use Rattle.p8_tree.specs.Views.{tree_of, trees_of}
use Rattle.p8_fold.specs.ConstantEntries.{setting_of}
use Rattle.p8_fold.specs.Values.{string_of, characters, value, text_of_items}
use Rattle.p8_fold.proofs.ValueRows.{text_next}
use Rattle.p8_fold.proofs.string_texts.put_text.Goals as goal

pub loop-item-preserved : goal.loop-item-preserved
loop-item-preserved c =
    let s = setting_of c.args.consts.now in
    let before : List ℕ = c.args.text.now.items in
    let done : List ℕ = text_of_items s (trees_of (take c.loop-item.item-index c.args.items.now)) in
    let more : expr.Expr → List ℕ = λ e. characters (string_of (tree_of e)) (value s (tree_of e)) in
    c.in_ok-put_item.ensures ∙ ap (λ t. t ++ more c.item-item.result) c.loop-item.invariant
    ∙ append_assoc before done (more c.item-item.result)
    ∙ ap (λ t. before ++ t) (ap (λ e. done ++ more e) c.item-item.is ∙ text_next s c.args.items.now c.loop-item.item-index c.item-item.result c.loop-item-test.true)
