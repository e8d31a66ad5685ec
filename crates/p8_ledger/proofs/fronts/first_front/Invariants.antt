use Rattle.p8_ledger.proofs.Firsts.{IsFirstBelow}
use Rattle.p8_ledger.proofs.fronts.first_front.Given as goal

abbrev pub invariant-loop-other : goal.invariant-loop-other
invariant-loop-other l = IsFirstBelow l.clocks l.other l.clock l.cog
