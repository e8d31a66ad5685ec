use Rattle.std.proofs.Common.{◌≡◌, ℕ, ◌<◌, ◌≤◌, length, drop, get_or}
use Rattle.p8_constants.specs.Standing.{items_of}
use Rattle.p8_names.specs.Kinds.{label_size}
use Rattle.p8_names.proofs.labels.label_sizes.Given as goal

abbrev pub invariant-loop-at : goal.invariant-loop-at
invariant-loop-at l =
    (l.at ≤ length l.items) × (length l.sizes.items ≡ length l.items) × (l.size ≡ label_size (items_of (drop l.at l.items)))
    × ((k : ℕ) → l.at ≤ k → k < length l.items → get_or l.sizes.items k 0 ≡ label_size (items_of (drop k l.items)))
