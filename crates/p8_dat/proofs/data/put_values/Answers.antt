use Rattle.std.proofs.Common.{◌∙◌, arith}
use Rattle.p8_dat.proofs.Rows.{next_bytes}
use Rattle.p8_dat.proofs.data.put_values.Goals as goal

pub loop-left-preserved : goal.loop-left-preserved
loop-left-preserved c = (
  next_bytes c.args.size c.loop-left.left c.args.value c.loop-left.at _ _ _ (omega arith) (omega arith) c.next-at.ensures c.in_ok-put.ensures.bytes ∙ c.loop-left.invariant.0,
  c.put.ensures.fault ∙ c.loop-left.invariant.1,
)
