use Rattle.std.proofs.Common.{◌+◌, ◌*◌, ℕ}
use Rattle.p8_finish.proofs.Ranges.{map_step}
use Rattle.p8_finish.proofs.image.push_addresses.Goals as goal

pub loop-place-preserved : goal.loop-place-preserved
loop-place-preserved c = map_step (λ (j : ℕ). 4096 + 4 * j) c.loop-place.place _ _ _ c.loop-place.invariant c.in_ok-push_long.ensures
