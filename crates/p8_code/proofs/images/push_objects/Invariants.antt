use Rattle.std.proofs.Common.{◌≡◌, ◌++◌, length}
use Rattle.p8_code.specs.Images.{image_objects}
use Rattle.p8_code.proofs.images.push_objects.Given as goal

abbrev pub invariant-objects : goal.invariant-objects
invariant-objects l = l.out.items ++ image_objects (length l.rest) l.base l.rest ≡ l.initial.out.items ++ image_objects (length l.bytes) l.initial.base l.bytes

abbrev pub decreases-objects : goal.decreases-objects
decreases-objects l = length l.rest
