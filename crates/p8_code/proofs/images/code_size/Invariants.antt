use Rattle.std.proofs.Common.{◌≡◌, ◌+◌, length}
use Rattle.p8_image.specs.Listing.{pieces_of}
use Rattle.p8_code.specs.Images.{code_size}
use Rattle.p8_code.proofs.images.code_size.Given as goal

abbrev pub invariant-loop-rest : goal.invariant-loop-rest
invariant-loop-rest l = record {
  parts : l.before + length l.rest ≡ length l.bytes;
  is : l.before + code_size l.ahead (pieces_of l.rest) ≡ code_size 0 (pieces_of l.bytes);
}

abbrev pub decreases-loop-rest : goal.decreases-loop-rest
decreases-loop-rest l = length l.rest
