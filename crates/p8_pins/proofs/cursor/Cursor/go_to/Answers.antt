use Rattle.std.proofs.Common.{arith}
use Rattle.p8_pins.proofs.Passing.{at-next, at-last, passes-change}
use Rattle.p8_pins.proofs.cursor.Cursor.go_to.Goals as goal

pub returns-then-clock-change-clause-pins : goal.returns-then-clock-change-clause-pins
returns-then-clock-change-clause-pins c =
    let cursor = c.loop-change.self-inside in
    at-next c.args.clock cursor.pins c.args.self.now cursor.changes.now c.in-Some.rest.now c.in-Some.change.now c.loop-change.invariant.passed c.in-Some.ensures.cases.0 c.if-clock-change.true

pub loop-change-preserved : goal.loop-change-preserved
loop-change-preserved c =
    let cursor = c.loop-change.self-inside in
    record {
      passed = passes-change c.args.clock cursor.pins c.args.self.now cursor.changes.now c.in-Some.rest.now c.in-Some.change.now c.loop-change.invariant.passed c.in-Some.ensures.cases.0 (omega (arith, c.if-clock-change.false));
    }

pub returns-clause-pins : goal.returns-clause-pins
returns-clause-pins c =
    let cursor = c.loop-change.self-inside in
    at-last c.args.clock cursor.pins c.args.self.now cursor.changes.now c.loop-change.invariant.passed c.in_default.ensures.cases
