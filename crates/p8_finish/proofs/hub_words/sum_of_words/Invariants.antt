use Rattle.std.proofs.Common.{◌≡◌, ◌+◌, ◌*◌, ◌%◌, ◌^◌, ℕ, List, map}
use Rattle.std.specs.List.{range_with_len, sum}
use Rattle.p8_access.specs.declared.kinds.Width.TheVariants.{Long}
use Rattle.p8_access.specs.declared.order.Turn.{Turn}
use Rattle.p8_access.specs.Worlds.{World}
use Rattle.p8_access.specs.Hub.{value_at}
use Rattle.p8_hub.specs.Standing.{IsHub}
use Rattle.p8_finish.proofs.hub_words.sum_of_words.Given as goal

abbrev pub invariant-loop-place : goal.invariant-loop-place
invariant-loop-place l = (w : World) (past : List Turn) → IsHub w past l.hub → l.sum ≡ sum (map (λ (j : ℕ). value_at w past Long (4096 + 4 * j)) (range_with_len 0 l.place)) % 2 ^ 32
