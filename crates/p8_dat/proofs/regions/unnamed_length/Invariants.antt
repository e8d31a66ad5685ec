use Rattle.std.proofs.Common.{◌≡◌, ◌+◌, length, map}
use Rattle.p8_dat.specs.Placing.{placed_of, unnamed_length}
use Rattle.p8_dat.proofs.regions.unnamed_length.Given as goal

abbrev pub invariant-loop-places : goal.invariant-loop-places
invariant-loop-places l =
    (l.count + unnamed_length (map placed_of l.places) ≡ unnamed_length (map placed_of l.initial.places))
    × (l.count + length l.places ≡ length l.initial.places)

abbrev pub decreases-loop-places : goal.decreases-loop-places
decreases-loop-places l = length l.places
