use Rattle.std.proofs.Common.{◌≡◌, ℕ, slice_index, bit_and}
use Rattle.p8_pins.specs.Driving.{gathered}
use Rattle.p8_pins.proofs.registers.Registers.pins.Given as goal

abbrev pub invariant-loop-cog : goal.invariant-loop-cog
invariant-loop-cog l = record {
  directions : l.directions ≡ gathered (λ (n : ℕ). slice_index l.self.dira n) l.cog;
  outputs : l.outputs ≡ gathered (λ (n : ℕ). bit_and (slice_index l.self.outa n) (slice_index l.self.dira n)) l.cog;
}
