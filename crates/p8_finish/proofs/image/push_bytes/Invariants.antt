use Rattle.std.proofs.Common.{◌≡◌, ◌++◌, length, flat_map}
use Rattle.std.specs.Int.{to_le_bytes, w32}
use Rattle.p8_finish.proofs.image.push_bytes.Given as goal

abbrev pub invariant-loop-longs : goal.invariant-loop-longs
invariant-loop-longs l = l.bytes.items ++ flat_map (to_le_bytes w32) l.longs ≡ l.initial.bytes.items ++ flat_map (to_le_bytes w32) l.initial.longs

abbrev pub decreases-loop-longs : goal.decreases-loop-longs
decreases-loop-longs l = length l.longs
