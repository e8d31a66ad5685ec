use Rattle.std.proofs.Common.{◌≡◌, ℕ, ◌<◌, length, get_or}
use Rattle.p8_constants.specs.Orders.{pair_at}
use Rattle.p8_constants.proofs.node_order.places_of.Given as goal

abbrev pub invariant-loop-node : goal.invariant-loop-node
invariant-loop-node l = (length l.places.items ≡ l.node) × ((k : ℕ) → k < l.node → pair_at l.places.items k ≡ (get_or l.numbers k 0, k))
