use Rattle.std.proofs.Common.{◌∙◌, Some, ap, sym, subst}
use Rattle.p8_tree.specs.Views.{tree_of}
use Rattle.p8_fold.specs.ConstantEntries.{setting_of}
use Rattle.p8_constants.specs.Rows.{Joins, refused, with_first}
use Rattle.p8_constants.proofs.evaluation.Evaluation.fold.Goals as goal

pub returns-in-Err-clause-fault : goal.returns-in-Err-clause-fault
returns-in-Err-clause-fault c =
    subst (λ k. Joins (setting_of k) (tree_of c.args.expr.now) c.args.self.now.fault c.join.new.self.fault) (sym c.join.ensures.consts)
    (refused c.in-Err.fault c.in-Err.ensures.refused (c.join.ensures.fault ∙ ap (λ o. Some (with_first o c.in-Err.fault)) c.prepare.ensures.fault))
