use Rattle.std.proofs.Common.{◌≡◌, ◌∙◌, ap, ℕ, arith, slice_index, bit_and}
use Rattle.p8_access.specs.Pins.{pins_with, dira, outputs}
use Rattle.p8_pins.specs.Driving.{gathered}
use Rattle.p8_pins.proofs.Eights.{told_dira, told_outputs}
use Rattle.p8_pins.proofs.registers.Registers.pins.Goals as goal

pub returns : goal.returns
returns c = λ past after.
    let registers = c.args.self.now in
    let eight : c.loop-cog.cog ≡ 8 = omega (arith, c.loop-cog.auto.cog-end, c.loop-cog-test.false) in
    let d : c.loop-cog.directions ≡ dira past = c.loop-cog.invariant.directions ∙ ap (gathered (λ (n : ℕ). slice_index registers.dira n)) eight ∙ told_dira past registers after in
    let o : c.loop-cog.outputs ≡ outputs past =
    c.loop-cog.invariant.outputs ∙ ap (gathered (λ (n : ℕ). bit_and (slice_index registers.outa n) (slice_index registers.dira n))) eight ∙ told_outputs past registers after in
    ap (λ (x : ℕ). pins_with c.loop-cog.directions x c.args.levels) o ∙ ap (λ (x : ℕ). pins_with x (outputs past) c.args.levels) d
