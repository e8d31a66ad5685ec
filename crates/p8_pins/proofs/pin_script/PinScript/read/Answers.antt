-- One more line of text.
use Rattle.std.proofs.Common.{subst, MatchBool}
use Rattle.p8_pins.specs.Readings.{Takes, Stops}
use Rattle.p8_pins.proofs.Scripting.{reading-more, reading-bad}
use Rattle.p8_pins.proofs.pin_script.PinScript.read.Goals as goal

pub returns-then-not-branch-clause-refused : goal.returns-then-not-branch-clause-refused
returns-then-not-branch-clause-refused c =
    let text = c.first_line.result.0.now in
    reading-bad c.args.bytes.now c.texts.rest.now text c.first_line.result.1.now c.texts.script c.texts.line c.texts.invariant c.first_line.ensures.lines
    (subst (λ good. MatchBool good (Takes c.texts.script text c.take.new.self) (Stops c.texts.script text)) c.if-not-branch.true c.in_ok-take.ensures)

pub texts-preserved : goal.texts-preserved
texts-preserved c =
    let text = c.first_line.result.0.now in
    reading-more c.args.bytes.now c.texts.rest.now text c.first_line.result.1.now c.texts.script c.take.new.self c.texts.line c.texts.invariant c.first_line.ensures.lines c.first_line.ensures.shorter
    (subst (λ good. MatchBool good (Takes c.texts.script text c.take.new.self) (Stops c.texts.script text)) c.if-not-branch.false c.in_ok-take.ensures)
