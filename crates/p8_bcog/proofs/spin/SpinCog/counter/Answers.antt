use Rattle.std.proofs.Common.{refl}
use Rattle.p8_bcog.proofs.Counting.{amid_by, amid_counts, amid_announces, none_counts}
use Rattle.p8_bcog.specs.Stops.{announced_at}
use Rattle.p8_bcog.proofs.spin.SpinCog.counter.Goals as goal

pub returns-in-Asked-clause-counts : goal.returns-in-Asked-clause-counts
returns-in-Asked-clause-counts c =
    amid_counts c.args.self.now.counter c.args.self.now.code c.args.self.now.done c.args.self.now.cog c.args.self.now.stage c.args.self.now.state c.args.self.now.clock c.args.self.now.reached (announced_at c.args.self.now.asking c.args.self.now.cog c.args.self.now.stage c.args.self.now.state c.args.self.now.clock) (amid_by c.args.self.now.stage c.in-Asked.is) c.args.self.now.announces

pub returns-in-Asked-clause-none : goal.returns-in-Asked-clause-none
returns-in-Asked-clause-none c = λ none.
    absurd (amid_announces c.args.self.now.cog c.args.self.now.stage c.args.self.now.state c.args.self.now.clock c.args.self.now.asking (amid_by c.args.self.now.stage c.in-Asked.is) c.if-not-self.false none)

pub returns-in-Entering : goal.returns-in-Entering
returns-in-Entering c = record {
  counts = none_counts c.args.self.now.counter c.args.self.now.code c.args.self.now.done c.args.self.now.cog c.args.self.now.stage c.args.self.now.state c.args.self.now.clock c.args.self.now.reached (announced_at c.args.self.now.asking c.args.self.now.cog c.args.self.now.stage c.args.self.now.state c.args.self.now.clock) c.in-Entering.is c.args.self.now.announces;
  none = λ is. refl;
}
