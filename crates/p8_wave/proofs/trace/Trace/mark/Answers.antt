use Rattle.p8_wave.proofs.Staying.{after-column, shows-high, shows-low, shows-changing}
use Rattle.p8_wave.proofs.trace.Trace.mark.Goals as goal

pub returns-then-not-pass-clause-mark : goal.returns-then-not-pass-clause-mark
returns-then-not-pass-clause-mark c = λ whole from le at.
    shows-changing c.args.pin c.args.column.now c.requires.clocks c.args.self.now c.pass.new.self c.pass-2.new.self c.pass.ensures.passed c.pass.ensures.later c.pass-2.ensures.passed whole from le at
    c.is_high-high.result c.pass-2.result c.is_high-high.ensures c.pass-2.ensures.stays c.if-not-pass.true

pub returns-then-not-pass-clause-goes_on : goal.returns-then-not-pass-clause-goes_on
returns-then-not-pass-clause-goes_on c = λ whole from le at.
    after-column c.args.pin c.args.column.now c.requires.clocks c.args.self.now c.pass.new.self c.pass-2.new.self c.pass.ensures.passed c.pass.ensures.later c.pass-2.ensures.passed whole from le at

pub returns-then-high-clause-mark : goal.returns-then-high-clause-mark
returns-then-high-clause-mark c = λ whole from le at.
    shows-high c.args.pin c.args.column.now c.requires.clocks c.args.self.now c.pass.new.self c.pass-2.new.self c.pass.ensures.passed c.pass.ensures.later c.pass-2.ensures.passed whole from le at
    c.is_high-high.result c.pass-2.result c.is_high-high.ensures c.pass-2.ensures.stays c.if-not-pass.false c.if-high.true

pub returns-then-high-clause-goes_on : goal.returns-then-high-clause-goes_on
returns-then-high-clause-goes_on c = λ whole from le at.
    after-column c.args.pin c.args.column.now c.requires.clocks c.args.self.now c.pass.new.self c.pass-2.new.self c.pass.ensures.passed c.pass.ensures.later c.pass-2.ensures.passed whole from le at

pub returns-else-high-clause-mark : goal.returns-else-high-clause-mark
returns-else-high-clause-mark c = λ whole from le at.
    shows-low c.args.pin c.args.column.now c.requires.clocks c.args.self.now c.pass.new.self c.pass-2.new.self c.pass.ensures.passed c.pass.ensures.later c.pass-2.ensures.passed whole from le at
    c.is_high-high.result c.pass-2.result c.is_high-high.ensures c.pass-2.ensures.stays c.if-not-pass.false c.if-high.false

pub returns-else-high-clause-goes_on : goal.returns-else-high-clause-goes_on
returns-else-high-clause-goes_on c = λ whole from le at.
    after-column c.args.pin c.args.column.now c.requires.clocks c.args.self.now c.pass.new.self c.pass-2.new.self c.pass.ensures.passed c.pass.ensures.later c.pass-2.ensures.passed whole from le at
