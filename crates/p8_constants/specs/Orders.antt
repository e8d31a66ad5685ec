-- The order of nodes by their numbers.
use Rattle.std.specs.Prelude.{◌≡◌, ◌⊎◌, ℕ, ◌<◌, ◌≤◌, List, slice_index, slice_index_or}

-- a node of a lower number comes first, and of one number the lower node
abbrev pub ComesNoLater : List ℕ → ℕ → ℕ → Type 0
ComesNoLater numbers a b = (slice_index numbers a < slice_index numbers b) ⊎ ((slice_index numbers a ≡ slice_index numbers b) × (a ≤ b))

abbrev pub pair_at : List (ℕ × ℕ) → ℕ → ℕ × ℕ
pair_at xs k = slice_index_or xs k (0, 0)
