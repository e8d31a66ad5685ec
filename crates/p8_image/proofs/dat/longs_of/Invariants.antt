use Rattle.std.proofs.Common.{◌≡◌, ◌++◌, length}
use Rattle.p8_image.specs.Listing.{longs_of}
use Rattle.p8_image.proofs.dat.longs_of.Given as goal

abbrev pub invariant-loop-rest : goal.invariant-loop-rest
invariant-loop-rest l = l.longs.items ++ longs_of l.rest ≡ longs_of l.initial.rest

abbrev pub decreases-loop-rest : goal.decreases-loop-rest
decreases-loop-rest l = length l.rest
