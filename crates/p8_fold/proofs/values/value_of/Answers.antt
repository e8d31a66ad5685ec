use Rattle.std.proofs.Common.{sym, subst}
use Rattle.p8_tree.specs.Views.{tree_of}
use Rattle.p8_fold.specs.ConstantEntries.{setting_of}
use Rattle.p8_fold.specs.Values.{value, FaultIn}
use Rattle.p8_fold.proofs.Judging.{Judges, judged_value, judged_clean, judged_refused, judged_no_value}
use Rattle.p8_fold.proofs.Judged.{judged}
use Rattle.p8_fold.proofs.Agreeing.{value_same, faults_alike}
use Rattle.p8_fold.proofs.values.value_of.Goals as goal

pub returns-clause-value : goal.returns-clause-value
returns-clause-value c =
    let s = setting_of c.args.consts.now in
    let e = tree_of c.args.expr.now in
    judged_value (FaultIn s e) c.verdict.result (value s e) (subst (λ r. Judges r (value s e) (FaultIn s e)) (sym c.verdict.ensures) (judged s e))

pub returns-clause-clean : goal.returns-clause-clean
returns-clause-clean c =
    let s = setting_of c.args.consts.now in
    let e = tree_of c.args.expr.now in
    judged_clean (FaultIn s e) c.verdict.result (value s e) (subst (λ r. Judges r (value s e) (FaultIn s e)) (sym c.verdict.ensures) (judged s e))

pub returns-clause-refused : goal.returns-clause-refused
returns-clause-refused c =
    let s = setting_of c.args.consts.now in
    let e = tree_of c.args.expr.now in
    judged_refused (FaultIn s e) c.verdict.result (value s e) (subst (λ r. Judges r (value s e) (FaultIn s e)) (sym c.verdict.ensures) (judged s e))

pub returns-clause-no_value : goal.returns-clause-no_value
returns-clause-no_value c =
    let s = setting_of c.args.consts.now in
    let e = tree_of c.args.expr.now in
    judged_no_value (FaultIn s e) c.verdict.result (value s e) (subst (λ r. Judges r (value s e) (FaultIn s e)) (sym c.verdict.ensures) (judged s e))

pub returns-clause-names_decide : goal.returns-clause-names_decide
returns-clause-names_decide c = λ other agree. sym (value_same (setting_of c.args.consts.now) other (tree_of c.args.expr.now) agree)

pub returns-clause-names_decide_faults : goal.returns-clause-names_decide_faults
returns-clause-names_decide_faults c = λ other agree. faults_alike (setting_of c.args.consts.now) other (tree_of c.args.expr.now) agree
