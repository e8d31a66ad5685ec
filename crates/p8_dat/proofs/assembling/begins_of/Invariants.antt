use Rattle.std.proofs.Common.{◌≡◌, ◌++◌, length, map}
use Rattle.p8_dat.specs.Lines.{begin_of}
use Rattle.p8_dat.specs.Placing.{placed_of}
use Rattle.p8_dat.proofs.assembling.begins_of.Given as goal

abbrev pub invariant-loop-places : goal.invariant-loop-places
invariant-loop-places l = l.lines.items ++ map begin_of (map placed_of l.places) ≡ map begin_of (map placed_of l.initial.places)

abbrev pub decreases-loop-places : goal.decreases-loop-places
decreases-loop-places l = length l.places
