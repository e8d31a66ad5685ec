use Rattle.std.proofs.Common.{◌≡◌, length}
use Rattle.p8_image.specs.Clocks.{external_clock}
use Rattle.p8_image.proofs.clocks.external.Given as goal

abbrev pub invariant-loop-table : goal.invariant-loop-table
invariant-loop-table l = external_clock l.initial.table l.value l.frequency l.input ≡ external_clock l.table l.value l.frequency l.input

abbrev pub decreases-loop-table : goal.decreases-loop-table
decreases-loop-table l = length l.table
