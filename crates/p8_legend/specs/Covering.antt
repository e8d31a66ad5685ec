-- That a table has a row for an address.
use Rattle.std.specs.Prelude.{◌≡◌, ℕ, List}
use Rattle.p8_legend.specs.declared.table.LineRow.{LineRow}
use Rattle.p8_legend.specs.Rows.{IsRowAt}

-- a row holds the address, and names this file and this method
pub record HasRow (rows : List LineRow) (address file method : ℕ) : Type 0 where
  pub row : LineRow
  pub is_at : IsRowAt rows address row
  pub file_is : row.file ≡ file
  pub method_is : row.method ≡ method
