use Rattle.std.proofs.Common.{◌≡◌, ◌++◌, length, map}
use Rattle.p8_dat.specs.Labels.{labels_of}
use Rattle.p8_dat.specs.Placing.{placed_of}
use Rattle.p8_dat.proofs.assembling.labels_of.Given as goal

abbrev pub invariant-loop-places : goal.invariant-loop-places
invariant-loop-places l =
    l.labels.items ++ labels_of l.kinds (map placed_of l.places) ≡ labels_of l.kinds (map placed_of l.initial.places)

abbrev pub decreases-loop-places : goal.decreases-loop-places
decreases-loop-places l = length l.places
