use Rattle.std.proofs.Common.{◌≡◌, take, filter_map, slice_get}
use Rattle.p8_names.proofs.copies.children_at.Given as goal

abbrev pub invariant-loop-target : goal.invariant-loop-target
invariant-loop-target l = l.items ≡ filter_map (slice_get l.seen) (take l.target-index l.targets)
