use Rattle.std.proofs.Common.{◌≡◌, ◌+◌, ◌*◌, ◌++◌, ℕ, map}
use Rattle.std.specs.List.{range_with_len}
use Rattle.p8_finish.proofs.image.push_addresses.Given as goal

abbrev pub invariant-loop-place : goal.invariant-loop-place
invariant-loop-place l = l.longs.items ≡ l.fn.longs.items ++ map (λ (j : ℕ). 4096 + 4 * j) (range_with_len 0 l.place)
