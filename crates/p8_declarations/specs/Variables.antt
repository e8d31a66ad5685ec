-- The lines of VAR (Propeller Manual v1.2, "VAR"): a size and names with counts in brackets, with commas between
-- them. The locals of a method are such names, too.
use Rattle.std.specs.Prelude.{ℕ, List, [], ◌∷◌, Option, Some, None, if◌then◌else◌}
use Rattle.p8_tree.specs.declared.places.Place.{Place}
use Rattle.p8_tree.specs.Expressions.{Tree}
use Rattle.p8_tree.specs.Sources.{Declared}
use Rattle.p8_lexer.specs.Pieces.{Piece}
use Rattle.p8_declarations.specs.Parts.{Part, line_end, comma, left_bracket, right_bracket, size, name, tree, parts, is_line_end, ended, with_first}

-- a variable of this size, with its count where it has one
abbrev pub variable : ℕ → List ℕ → Place → Option Tree → Declared
variable s n p count = record { place = p; size = s; name = n; count = count }

abbrev mutual
  -- one variable and those after it
  pub variables : ℕ → List Part → Option (List Declared)
  variables s (name n p ∷ rest) = variables_named s n p rest
  variables s _ = None

  -- what stands after the name of a variable
  pub variables_named : ℕ → List ℕ → Place → List Part → Option (List Declared)
  variables_named s n p (left_bracket ∷ tree e ∷ right_bracket ∷ rest) = with_first (variable s n p (Some e)) (variables_behind s rest)
  variables_named s n p (comma ∷ rest) = with_first (variable s n p None) (variables s rest)
  variables_named s n p (line_end ∷ rest) = with_first (variable s n p None) (ended rest)
  variables_named s n p _ = None

  -- what stands after a variable
  pub variables_behind : ℕ → List Part → Option (List Declared)
  variables_behind s (comma ∷ rest) = variables s rest
  variables_behind s (line_end ∷ rest) = ended rest
  variables_behind s _ = None

-- a size and the variables of it
abbrev pub sized_variables : List Part → Option (List Declared)
sized_variables (size s ∷ rest) = variables s rest
sized_variables _ = None

-- what a row of pieces declares, unless it is no row of VAR
abbrev pub variables_of_row : List Piece → Option (List Declared)
variables_of_row row = if is_line_end (parts row) then Some [] else sized_variables (parts row)
