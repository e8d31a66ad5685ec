use Rattle.std.proofs.Common.{◌∙◌, subst}
use Rattle.p8_fold.specs.ConstantEntries.{setting_of, at_bytes}
use Rattle.p8_constants.specs.Rows.{rows_from, IsNameEntered}
use Rattle.p8_constants.proofs.Growing.{entered_more}
use Rattle.p8_constants.proofs.evaluation.Evaluation.enter_all.Goals as goal

pub loop-k-preserved : goal.loop-k-preserved
loop-k-preserved c =
    let one = subst (λ vs. IsNameEntered (λ n. at_bytes n c.args.plan.now.index.names) c.item.result.now.name vs.items (setting_of c.loop-k.self.consts) (setting_of c.enter_name.new.self.consts)) c.loop-k.invariant.values c.in_ok-enter_name.ensures.entered in
    let named = subst (λ x. IsNameEntered (λ n. at_bytes n c.args.plan.now.index.names) x.name c.args.self.now.values.items (setting_of c.loop-k.self.consts) (setting_of c.enter_name.new.self.consts)) c.item.ensures one in
    record {
      values = c.enter_name.ensures.values ∙ c.loop-k.invariant.values;
      fault = c.enter_name.ensures.fault ∙ c.loop-k.invariant.fault;
      entered = entered_more (λ n. at_bytes n c.args.plan.now.index.names) (rows_from c.args.plan.now.rows) c.args.self.now.values.items c.loop-k.k (setting_of c.args.self.now.consts) (setting_of c.loop-k.self.consts) (setting_of c.enter_name.new.self.consts) c.loop-k.invariant.entered named;
    }
