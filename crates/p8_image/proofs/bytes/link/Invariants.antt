use Rattle.std.proofs.Common.{◌≡◌, drop, slice_index}
use Rattle.p8_image.specs.Layout.{linked}
use Rattle.p8_image.proofs.bytes.link.Given as goal

abbrev pub invariant-loop-place : goal.invariant-loop-place
invariant-loop-place l =
    linked (slice_index l.offsets) (drop l.place-index l.uses) l.code ≡ linked (slice_index l.offsets) l.uses l.initial.code
