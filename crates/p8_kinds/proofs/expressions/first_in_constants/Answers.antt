use Rattle.std.proofs.Common.{◌∙◌, ap}
use Rattle.std.specs.Result.{result_err}
use Rattle.p8_tree.specs.Views.{tree_of}
use Rattle.p8_tree.specs.Faults.{first_of_two}
use Rattle.p8_fold.specs.ConstantEntries.{setting_of}
use Rattle.p8_fold.specs.Verdicts.{verdict}
use Rattle.p8_fold.proofs.ValueRows.{trees_next}
use Rattle.p8_kinds.proofs.expressions.first_in_constants.Goals as goal

pub loop-tree-preserved : goal.loop-tree-preserved
loop-tree-preserved c =
    let s = setting_of c.args.consts.now in
    c.first_of_two-first.ensures ∙ ap (λ o. first_of_two o c.first_in_constant.result) c.loop-tree.invariant
    ∙ ap (first_of_two _) (c.first_in_constant.ensures ∙ ap (λ e. result_err (verdict s (tree_of e))) c.tree-item.is)
    ∙ trees_next s c.args.trees.now c.loop-tree.tree-index c.tree-item.result c.loop-tree-test.true
