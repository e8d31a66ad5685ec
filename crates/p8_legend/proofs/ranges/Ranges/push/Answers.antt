use Rattle.std.proofs.Common.{arith}
use Rattle.p8_legend.proofs.Apart.{after_push}
use Rattle.p8_legend.proofs.ranges.Ranges.push.Goals as goal

pub invariant_of-self-2 : goal.invariant_of-self-2
invariant_of-self-2 c = record { apart = after_push c.push-2.result c.args.self.now.ranges _ c.args.range c.args.self.now.apart (omega arith) (omega arith) c.push-2.ensures.ok c.push-2.ensures.unchanged }
