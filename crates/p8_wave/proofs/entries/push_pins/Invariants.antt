use Rattle.std.proofs.Common.{◌≡◌, ◌++◌, ℕ, map}
use Rattle.std.specs.List.{range_with_len}
use Rattle.p8_wave.specs.declared.variables.Variable.TheVariants.{Pin}
use Rattle.p8_wave.specs.Sections.{still}
use Rattle.p8_wave.proofs.entries.push_pins.Given as goal

abbrev pub invariant-loop-pin : goal.invariant-loop-pin
invariant-loop-pin l = l.entries.items ≡ l.initial.entries.items ++ map (λ (n : ℕ). still (Pin n)) (range_with_len 0 l.pin)
