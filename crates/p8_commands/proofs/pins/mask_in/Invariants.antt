use Rattle.std.proofs.Common.{◌≡◌}
use Rattle.p8_commands.specs.Pins.{mask_with, mask_of}
use Rattle.p8_commands.proofs.Parts.{parts_left, size_left}
use Rattle.p8_commands.proofs.pins.mask_in.Given as goal

abbrev pub invariant-parts : goal.invariant-parts
invariant-parts l = mask_with l.mask (parts_left l.left) ≡ mask_of l.text

abbrev pub decreases-parts : goal.decreases-parts
decreases-parts l = size_left l.left
