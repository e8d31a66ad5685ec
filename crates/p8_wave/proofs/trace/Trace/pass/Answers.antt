use Rattle.std.proofs.Common.{◌∙◌, ap, arith}
use Rattle.p8_pins.proofs.Passing.{passes-change}
use Rattle.p8_wave.specs.Tracing.{same}
use Rattle.p8_wave.proofs.Staying.{goes-on}
use Rattle.p8_wave.proofs.trace.Trace.pass.Goals as goal

pub loop-change-preserved : goal.loop-change-preserved
loop-change-preserved c =
    let i = c.loop-change.invariant in let trace = c.loop-change.self-inside in let is = c.in-Some.ensures.cases.0 in
    record {
      passed = passes-change c.args.clock trace.pins c.args.self.now trace.changes.now c.in-Some.rest.now c.in-Some.change.now i.passed is (omega (arith, c.if-clock-change.false));
      stays = goes-on c.args.pin c.is_high-high.result c.args.clock c.loop-change.stayed _ trace.changes.now i.stays c.in-Some.change.now c.in-Some.rest.now c.same_level-stayed.result is
          (omega (arith, c.if-clock-change.false)) (c.same_level-stayed.ensures ∙ ap (same c.is_high-high.result) c.is_set.ensures);
    }
