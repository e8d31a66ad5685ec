-- The line at the place.
use Rattle.std.proofs.Common.{Some, ap, sym, ◌∙◌, arith}
use Rattle.p8_pins.proofs.Levels.{kept-at, slice_get-clock}
use Rattle.p8_pins.proofs.pin_script.PinScript.clock_of.Goals as goal

pub returns : goal.returns
returns c =
    let found = c.in_ok-get.ensures.lookup in
    let kept = kept-at c.args.self.now c.self.inside.changes.items c.args.place c.in_ok-get.field-0.now c.self.view_is (omega (arith, found.3.0, c.deref.ensures.len)) (rw c.deref.ensures.value at found.1) in
    sym (slice_get-clock c.args.self.now c.args.place kept.inside ∙ ap Some kept.clock)
