use Rattle.p8_tree.specs.Views.{source_of}
use Rattle.p8_fold.specs.ConstantEntries.{setting_of}
use Rattle.p8_constants.specs.Constants.{scope_of}
use Rattle.p8_constants.specs.Rows.{rows_from, IsEvaluated}
use Rattle.p8_constants.proofs.found.constants_of.Given as goal

abbrev pub invariant-loop-place : goal.invariant-loop-place
invariant-loop-place l = IsEvaluated (scope_of (setting_of l.fn.outside) (source_of l.file)) (rows_from l.plan.rows) l.plan.order.items l.place l.evaluation.values.items (setting_of l.evaluation.consts) l.evaluation.fault
