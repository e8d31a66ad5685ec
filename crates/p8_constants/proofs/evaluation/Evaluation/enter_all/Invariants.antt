use Rattle.std.proofs.Common.{◌≡◌}
use Rattle.p8_fold.specs.ConstantEntries.{setting_of, at_bytes}
use Rattle.p8_constants.specs.Rows.{rows_from, IsEntered}
use Rattle.p8_constants.proofs.evaluation.Evaluation.enter_all.Given as goal

abbrev pub invariant-loop-k : goal.invariant-loop-k
invariant-loop-k l = record {
  values : l.self.values ≡ l.fn.self.values;
  fault : l.self.fault ≡ l.fn.self.fault;
  entered : IsEntered (λ n. at_bytes n l.plan.index.names) (rows_from l.plan.rows) l.fn.self.values.items l.k (setting_of l.fn.self.consts) (setting_of l.self.consts);
}
