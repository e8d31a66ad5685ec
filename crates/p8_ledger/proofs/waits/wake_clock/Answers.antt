use Rattle.std.proofs.Common.{arith}
use Rattle.p8_ledger.proofs.Waking.{woken}
use Rattle.p8_ledger.proofs.waits.wake_clock.Goals as goal

pub returns-clause-first : goal.returns-clause-first
returns-clause-first c = λ w past hub last span.
    woken w past c.args.cog c.args.test.now c.args.earliest c.args.from c.max-first.result c.dira.result c.outputs.result c.args.span.now span (c.dira.ensures w past hub) (c.outputs.ensures w past hub) c.args.last last
    c.first_clock.result c.first_clock.ensures (omega arith) (omega arith) (omega arith) (λ u a b d. omega arith) c.first_match.result c.first_match.ensures.not_before c.first_match.ensures.within c.first_match.ensures.holds c.first_match.ensures.least c.first_match.ensures.none
