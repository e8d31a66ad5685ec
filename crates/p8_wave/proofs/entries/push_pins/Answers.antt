use Rattle.std.proofs.Common.{rules, ℕ}
use Rattle.p8_wave.specs.declared.variables.Variable.TheVariants.{Pin}
use Rattle.p8_wave.specs.Sections.{still}
use Rattle.p8_wave.proofs.Lists.{map_step}
use Rattle.p8_wave.proofs.entries.push_pins.Goals as goal

pub loop-pin-preserved : goal.loop-pin-preserved
loop-pin-preserved c = map_step (λ (n : ℕ). still (Pin n)) c.loop-pin.pin _ _ _ c.loop-pin.invariant (search rules)
