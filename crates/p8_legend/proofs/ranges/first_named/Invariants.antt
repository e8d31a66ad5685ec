use Rattle.std.proofs.Common.{◌≡◌, length}
use Rattle.p8_legend.specs.Ranges.{range_named}
use Rattle.p8_legend.proofs.ranges.first_named.Given as goal

abbrev pub invariant-loop-ranges : goal.invariant-loop-ranges
invariant-loop-ranges l = range_named l.ranges l.texts l.name ≡ range_named l.initial.ranges l.initial.texts l.name

abbrev pub decreases-loop-ranges : goal.decreases-loop-ranges
decreases-loop-ranges l = length l.ranges
