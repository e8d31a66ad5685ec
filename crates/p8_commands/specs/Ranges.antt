-- internal
-- Ranges of hub RAM.
use Rattle.std.specs.Prelude.{ℕ, ◌+◌, ◌≤◌, Option}
use Rattle.std.specs.Option.{ForSome}

-- a range is in hub RAM, and isn't empty
abbrev pub IsInRam : Option (ℕ × ℕ) → Type 0
IsInRam dump = ForSome dump (λ range. 1 ≤ range.1) × ForSome dump (λ range. range.0 + range.1 ≤ 32768)
