-- What a run by a crew gives.
use Rattle.std.specs.Prelude.{ℕ, ◌≡◌, ◌⊎◌}
use Rattle.p8_io.specs.Counts.{raised}

-- how many made the turns: eight, where no start was refused, or one, where one start was refused, and counted
abbrev pub IsCrew : (before after crew : ℕ) → Type 0
IsCrew before after crew = ((crew ≡ 8) × (after ≡ before)) ⊎ ((crew ≡ 1) × (after ≡ raised before))
