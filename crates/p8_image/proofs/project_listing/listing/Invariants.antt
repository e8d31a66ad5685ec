use Rattle.std.proofs.Common.{◌≡◌, ◌++◌, length}
use Rattle.p8_image.specs.Listing.{objects_lines}
use Rattle.p8_image.proofs.project_listing.listing.Given as goal

abbrev pub invariant-loop-objects : goal.invariant-loop-objects
invariant-loop-objects l = l.out.items ++ objects_lines l.base l.names l.objects ≡ objects_lines 16 l.initial.names l.initial.objects

abbrev pub decreases-loop-objects : goal.decreases-loop-objects
decreases-loop-objects l = length l.objects
