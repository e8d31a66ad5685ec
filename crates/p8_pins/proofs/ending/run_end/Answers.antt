use Rattle.std.proofs.Common.{◌∙◌}
use Rattle.p8_pins.proofs.Ends.{end-clocks, end-turns, last-of, last-none}
use Rattle.p8_pins.proofs.ending.run_end.Goals as goal

pub returns-then-turns-limit : goal.returns-then-turns-limit
returns-then-turns-limit c = λ w clocks most. end-clocks w c.args.turns.now c.args.limit most c.args.clocks clocks c.if-turns-limit.true

pub returns-in-Some : goal.returns-in-Some
returns-in-Some c = λ w clocks most.
    last-of c.args.turns.now c.in-Some.field-0-1.now c.in-Some.turn.now c.in-Some.ensures.cases.0
    ∙ end-turns w c.args.turns.now c.args.limit most c.if-turns-limit.false

pub returns-in-None : goal.returns-in-None
returns-in-None c = λ w clocks most.
    last-none c.args.turns.now c.in-None.ensures.cases ∙ end-turns w c.args.turns.now c.args.limit most c.if-turns-limit.false
