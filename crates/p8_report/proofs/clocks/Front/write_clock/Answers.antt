use Rattle.std.proofs.Common.{◌-◌, arith}
use Rattle.p8_report.proofs.Decimals.{clock_text}
use Rattle.p8_report.proofs.clocks.Front.write_clock.Goals as goal

pub returns-then-clock-self-lt10000-clause-text : goal.returns-then-clock-self-lt10000-clause-text
returns-then-clock-self-lt10000-clause-text c =
    clock_text c.args.self.now.first (c.args.clock - c.args.self.now.first) c.args.clock _ _ _ _ c.args.self.now.whole c.args.self.now.some (omega arith) (omega arith) (omega arith) c.write_front-at.ensures.text c.write_pair-at.ensures.text c.write_pair.ensures.text
