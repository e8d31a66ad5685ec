use Rattle.std.proofs.Common.{◌∙◌, ap}
use Rattle.p8_tree.specs.Views.{tree_of}
use Rattle.p8_tree.specs.Faults.{first_of_two}
use Rattle.p8_fold.specs.ConstantEntries.{setting_of}
use Rattle.p8_fold.specs.Values.{string_of}
use Rattle.p8_fold.specs.Verdicts.{first_of_item}
use Rattle.p8_fold.proofs.ValueRows.{text_faults_next}
use Rattle.p8_fold.proofs.string_texts.first_in_text.Goals as goal

pub loop-item-preserved : goal.loop-item-preserved
loop-item-preserved c =
    let s = setting_of c.args.consts.now in
    c.first_of_two-first.ensures ∙ ap (λ o. first_of_two o c.first_of_item.result) c.loop-item.invariant
    ∙ ap (first_of_two _) (c.first_of_item.ensures ∙ ap (λ e. first_of_item s (string_of (tree_of e)) (tree_of e)) c.item-item.is)
    ∙ text_faults_next s c.args.items.now c.loop-item.item-index c.item-item.result c.loop-item-test.true
