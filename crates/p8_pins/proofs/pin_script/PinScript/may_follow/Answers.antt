-- The last line has the greatest clock.
use Rattle.std.proofs.Common.{◌≡◌, length, get_or, ◌-◌, ap, sym, ◌∙◌, subst, List, arith}
use Rattle.p8_pins.specs.declared.line_text.Change.{Change}
use Rattle.p8_pins.proofs.Scripting.{follows-last}
use Rattle.p8_pins.proofs.Levels.{length-lines_of}
use Rattle.p8_pins.proofs.pin_script.PinScript.may_follow.Goals as goal

pub returns-in-Some : goal.returns-in-Some
returns-in-Some c =
    let changes = c.self.inside.changes.items in
    let len : length c.args.self.now ≡ length changes = ap length (sym c.self.view_is) ∙ length-lines_of changes in
    let last : c.in-Some.last.now ≡ get_or changes (length changes - 1) c.in-Some.last.now =
    subst (λ (xs : List Change). c.in-Some.last.now ≡ get_or xs (length xs - 1) c.in-Some.last.now) c.deref.ensures.value c.in-Some.ensures.item.1 in
    follows-last c.args.self.now changes c.in-Some.last.now c.args.clock c.self.view_is c.self.invariant
    (omega (arith, c.if-len-lt-MOST_LINES.true, c.len.ensures))
    (omega (arith, c.in-Some.ensures.item.3.0, c.deref.ensures.len))
    last
