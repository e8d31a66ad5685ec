-- The lines of CON (Propeller Manual v1.2, "CON"): items `name = e`, `#e`, `name` and `name[e]`, with commas
-- between them.
use Rattle.std.specs.Prelude.{ℕ, true, false, List, [], ◌∷◌, Option, Some, None, if◌then◌else◌}
use Rattle.p8_tree.specs.declared.places.Place.{Place}
use Rattle.p8_tree.specs.Expressions.{Tree}
use Rattle.p8_tree.specs.Sources.{Constant}
use Rattle.p8_lexer.specs.Pieces.{Piece}
use Rattle.p8_declarations.specs.Parts.{Part, line_end, comma, equals, hash, left_bracket, right_bracket, name, tree, parts, is_line_end, ended, with_first}

-- `#e` sets the counter
abbrev pub setting : Place → Tree → Constant
setting p e = record { place = p; name = None; value = Some e; step = None; sets = true }

-- a name with its value and its step, where it has them
abbrev pub constant : List ℕ → Place → Option Tree → Option Tree → Constant
constant n p value step = record { place = p; name = Some n; value = value; step = step; sets = false }

abbrev mutual
  -- one item and those after it
  pub constants : List Part → Option (List Constant)
  constants (hash p ∷ tree e ∷ rest) = with_first (setting p e) (constants_behind rest)
  constants (name n p ∷ rest) = constants_named n p rest
  constants _ = None

  -- what stands after the name of an item
  pub constants_named : List ℕ → Place → List Part → Option (List Constant)
  constants_named n p (equals ∷ tree e ∷ rest) = with_first (constant n p (Some e) None) (constants_behind rest)
  constants_named n p (left_bracket ∷ tree e ∷ right_bracket ∷ rest) = with_first (constant n p None (Some e)) (constants_behind rest)
  constants_named n p (comma ∷ rest) = with_first (constant n p None None) (constants rest)
  constants_named n p (line_end ∷ rest) = with_first (constant n p None None) (ended rest)
  constants_named n p _ = None

  -- what stands after an item
  pub constants_behind : List Part → Option (List Constant)
  constants_behind (comma ∷ rest) = constants rest
  constants_behind (line_end ∷ rest) = ended rest
  constants_behind _ = None

-- what a row of pieces declares, unless it is no row of CON
abbrev pub constants_of_row : List Piece → Option (List Constant)
constants_of_row row = if is_line_end (parts row) then Some [] else constants (parts row)
