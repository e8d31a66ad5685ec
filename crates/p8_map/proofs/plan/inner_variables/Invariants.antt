use Rattle.std.proofs.Common.{◌≡◌, ◌+◌, ◌%◌, drop, slice_index}
use Rattle.p8_image.specs.Layout.{total}
use Rattle.p8_map.proofs.plan.inner_variables.Given as goal

abbrev pub invariant-loop-file : goal.invariant-loop-file
invariant-loop-file l = (l.bytes + total (slice_index l.sizes) (drop l.file-index l.instances)) % 65536 ≡ total (slice_index l.sizes) l.instances % 65536
