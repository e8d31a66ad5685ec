use Rattle.std.proofs.Common.{◌+◌, arith}
use Rattle.p8_ledger.proofs.Firsts.{IsFirstBelow, kept-first, new-first}
use Rattle.p8_ledger.proofs.fronts.first_front.Goals.{then-front-clock, else-front-clock}
use Rattle.p8_ledger.proofs.fronts.first_front.Goals as goal

pub loop-other-preserved : goal.loop-other-preserved
loop-other-preserved c = elim c.if-front-clock.branch [
  | then-front-clock w ↦
      (let new : IsFirstBelow c.args.clocks.now (c.loop-other.other + 1) _ _ = new-first c.args.clocks.now c.loop-other.other c.loop-other.clock c.loop-other.cog c.loop-other.invariant (omega arith) (omega arith) in
      rw (w.clock-is, w.cog-is) new)
  | else-front-clock w ↦ rw (w.clock-is, w.cog-is) (kept-first c.args.clocks.now c.loop-other.other c.loop-other.clock c.loop-other.cog c.loop-other.invariant (omega arith))
]
