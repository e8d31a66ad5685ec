use Rattle.std.proofs.Common.{◌≡◌, ◌++◌, drop, slice_index}
use Rattle.p8_image.specs.Layout.{codes_of}
use Rattle.p8_image.proofs.bytes.push_codes.Given as goal

abbrev pub invariant-loop-method : goal.invariant-loop-method
invariant-loop-method l =
    l.out.items ++ codes_of (slice_index l.offsets) (drop l.method-index l.methods)
    ≡ l.initial.out.items ++ codes_of (slice_index l.offsets) l.methods
