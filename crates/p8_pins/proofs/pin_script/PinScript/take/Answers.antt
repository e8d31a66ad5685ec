-- A line is kept where it may follow, and stops the reading where it may not.
use Rattle.std.proofs.Common.{rules, is_ok}
use Rattle.p8_pins.specs.Changes.{line_of}
use Rattle.p8_pins.proofs.Scripting.{stops-here, kept-pushed}
use Rattle.p8_pins.proofs.pin_script.PinScript.take.Goals as goal

pub returns-then-not-may_follow : goal.returns-then-not-may_follow
returns-then-not-may_follow c =
    stops-here c.args.self.now c.args.text.now (line_of c.in-Some.change) (search rules) c.in-Some.ensures
    (λ follows. absurd (search (rules, c.if-not-may_follow.ensures.1 follows)))

pub invariant_of-self : goal.invariant_of-self
invariant_of-self c =
    kept-pushed c.args.text.now c.args.self.now c.self.inside.changes.items c.push.new.self.items c.in-Some.change (is_ok c.push.result) c.self.view_is c.self.invariant c.in-Some.ensures (search (rules, c.if-not-may_follow.ensures.0)) c.push.ensures.items
