-- How the least choice of wide jumps is found: internal.
use Rattle.std.specs.Prelude.{◌≡◌, ℕ, suc, Bool, true, false, not, ◌||◌, List, [], ◌∷◌, length, slice_get, Some}
use Rattle.p8_tree.specs.Statements.{Statements}
use Rattle.p8_gen.specs.Methods.{method_code}
use Rattle.p8_gen.specs.Names.{Names, widened, wide_in}
use Rattle.p8_gen.specs.Pieces.{is_near}
use Rattle.p8_stmt.specs.Jumps.{Fits}

-- the choice after a round, from a jump on with the ways of it and of those after it: a jump is wide that was, or whose
-- offset doesn't fit in one byte
abbrev pub widened_from : List Bool → (number : ℕ) → List (ℕ × ℕ) → List Bool
widened_from widths number [] = []
widened_from widths number (way ∷ ways) = (wide_in widths number || not (is_near false way.0 way.1)) ∷ widened_from widths (suc number) ways

-- the choice after a round
abbrev pub after_round : Names → Statements → List Bool → List Bool
after_round names ss widths = widened_from widths 0 (method_code (widened names (wide_in widths)) ss).ways

-- a choice all of whose wide jumps every choice has by which each offset fits
pub record IsBelowAll (names : Names) (ss : Statements) (widths : List Bool) : Type 0 where
  pub count : length widths ≡ (method_code names ss).jumps
  pub least : (other : List Bool) → length other ≡ length widths → Fits names ss (wide_in other) → (k : ℕ) → slice_get widths k ≡ Some true →
      slice_get other k ≡ Some true
