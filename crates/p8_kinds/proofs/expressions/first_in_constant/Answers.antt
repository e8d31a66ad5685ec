use Rattle.std.proofs.Common.{◌∙◌}
use Rattle.p8_tree.specs.Views.{tree_of}
use Rattle.p8_fold.specs.ConstantEntries.{setting_of}
use Rattle.p8_fold.specs.Values.{value, FaultIn}
use Rattle.p8_fold.specs.Verdicts.{verdict}
use Rattle.p8_fold.proofs.Judging.{fault_told}
use Rattle.p8_fold.proofs.Judged.{judged}
use Rattle.p8_kinds.proofs.Rows.{told_alike}
use Rattle.std.specs.Result.{result_err}
use Rattle.p8_kinds.proofs.expressions.first_in_constant.Goals as goal

pub returns : goal.returns
returns c =
    let s = setting_of c.args.consts.now in
    let e = tree_of c.args.expr.now in
    c.err.ensures.value ∙ told_alike (FaultIn s e) c.value_of.result (result_err (verdict s e)) c.value_of.ensures.clean c.value_of.ensures.refused (fault_told (FaultIn s e) (verdict s e) (value s e) (judged s e))
