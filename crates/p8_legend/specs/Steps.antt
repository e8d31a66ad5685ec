-- internal: where a search parts the rows of a table.
use Rattle.std.specs.Prelude.{◌≡◌, ℕ, ◌<◌, ◌≤◌, List, slice_get, Some}
use Rattle.p8_legend.specs.declared.table.LineRow.{LineRow}

-- so many rows begin at or before an address, and those behind them after it
pub record Splits (rows : List LineRow) (address count : ℕ) : Type 0 where
  pub before : (k : ℕ) (row : LineRow) → k < count → slice_get rows k ≡ Some row → row.address ≤ address
  pub after : (k : ℕ) (row : LineRow) → count ≤ k → slice_get rows k ≡ Some row → address < row.address
