use Rattle.std.proofs.Common.{ap}
use Rattle.p8_meaning.specs.Folding.{Going}
use Rattle.p8_meaning.proofs.Bodies.{arms-pushed}
use Rattle.p8_meaning.proofs.chains.with_last.Goals as goal

pub returns : goal.returns
returns c = ap Going (arms-pushed c.args.arms.items c.push.new.self.items c.args.arm c.in_ok-push.ensures.items)
