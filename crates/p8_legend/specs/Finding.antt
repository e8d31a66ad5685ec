-- internal: where a search parts the ranges.
use Rattle.std.specs.Prelude.{◌≡◌, ℕ, ◌<◌, ◌≤◌, List, slice_get, Some}
use Rattle.p8_legend.specs.declared.ranges.Range.{Range}

-- so many ranges begin at or before an address, and those behind them after it
pub record Splits (ranges : List Range) (address count : ℕ) : Type 0 where
  pub before : (k : ℕ) (r : Range) → k < count → slice_get ranges k ≡ Some r → r.address ≤ address
  pub after : (k : ℕ) (r : Range) → count ≤ k → slice_get ranges k ≡ Some r → address < r.address
