use Rattle.std.proofs.Common.{◌≡◌, take, map}
use Rattle.p8_fold.specs.ConstantEntries.{setting_of, at_bytes}
use Rattle.p8_constants.specs.Rows.{IsPrepared}
use Rattle.p8_constants.proofs.evaluation.Evaluation.prepare.Given as goal

abbrev pub invariant-loop-name : goal.invariant-loop-name
invariant-loop-name l = record {
  values : l.self.values ≡ l.fn.self.values;
  fault : l.self.fault ≡ l.fn.self.fault;
  prepared : IsPrepared (λ n. at_bytes n l.plan.index.names) l.plan.numbers.items l.fn.self.values.items l.node (take l.name-index (map (λ t. t.now) l.name-items)) (setting_of l.fn.self.consts) (setting_of l.self.consts);
}
