use Rattle.std.proofs.Common.{◌∙◌, arith}
use Rattle.p8_dat.proofs.Rows.{next_zero}
use Rattle.p8_dat.proofs.output.Output.put_zeros.Goals as goal

pub loop-left-preserved : goal.loop-left-preserved
loop-left-preserved c =
    (next_zero c.loop-left.left _ _ (omega arith) c.in_ok-push.ensures.items ∙ c.loop-left.invariant.0, c.loop-left.invariant.1)
