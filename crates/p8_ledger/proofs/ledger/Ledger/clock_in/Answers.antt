use Rattle.std.proofs.Common.{◌∙◌, ◌≡◌, ap, ◌^◌, ◌≤◌, arith}
use Rattle.p8_access.specs.Worlds.{World}
use Rattle.p8_ledger.specs.Waiting.{newest_key}
use Rattle.p8_ledger.specs.Records.{turns}
use Rattle.p8_ledger.proofs.Choosing.{clock-plain, clock-silent, clock-woken}
use Rattle.p8_ledger.proofs.ledger.Ledger.clock_in.Goals as goal

pub returns-in-None : goal.returns-in-None
returns-in-None c = λ w r found spans late.
    clock-plain w r c.args.cog c.front-front.result.clock c.front-front.result.test (c.front-front.ensures w r found) c.args.span.now.end c.in-None.is

pub returns-in-None-wake_clock : goal.returns-in-None-wake_clock
returns-in-None-wake_clock c = λ w r found spans late.
    let limit : c.args.self.now.limits.clocks ≡ w.clocks = ap (λ (w : World). w.clocks) found.world in
    let far : w.clocks ≤ 18446744073709551615 = omega (arith, c.args.self.now.clocks) in
    let small : w.clocks ≤ 2 ^ 62 = omega (arith, c.args.self.now.clocks) in
    clock-silent w r c.args.cog c.front-front.result.clock c.front-front.result.test (c.front-front.ensures w r found) c.args.span.now.end c.in-Some.test c.in-Some.is c.args.from late _ far small
    (c.in-None-wake_clock.ensures.first w (turns r) found.hub (c.last.ensures.key ∙ ap newest_key found.log) spans)

pub returns-in-Some-wake_clock : goal.returns-in-Some-wake_clock
returns-in-Some-wake_clock c = λ w r found spans late.
    clock-woken w r c.args.cog c.front-front.result.clock c.front-front.result.test (c.front-front.ensures w r found) c.args.span.now.end c.in-Some.test c.in-Some.is c.args.from late c.in-Some-wake_clock.clock
    (c.in-Some-wake_clock.ensures.first w (turns r) found.hub (c.last.ensures.key ∙ ap newest_key found.log) spans)
