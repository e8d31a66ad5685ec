-- The heads of methods, after PUB or PRI (Propeller Manual v1.2, "PUB" and "PRI"): a name, parameters in
-- parentheses, `: name` for the result and `| name, name[e]` for locals.
use Rattle.std.specs.Prelude.{ℕ, Bool, List, [], ◌∷◌, ◌++◌, Option, Some, None, option_map}
use Rattle.p8_tree.specs.declared.places.Place.{Place}
use Rattle.p8_tree.specs.Statements.{no_statements}
use Rattle.p8_tree.specs.Sources.{Declared, MethodTree}
use Rattle.p8_lexer.specs.Pieces.{Piece}
use Rattle.p8_declarations.specs.Parts.{Part, line_end, comma, colon, bar, left_parenthesis, right_parenthesis, name, parts}
use Rattle.p8_declarations.specs.Variables.{variables}

-- a method of this name, with nothing else
abbrev pub bare : Bool → List ℕ → Place → MethodTree
bare public n p = record {
  place = p;
  public = public;
  name = n;
  params = [];
  param_places = [];
  result_name = None;
  result_place = None;
  locals = [];
  body = no_statements;
}

-- the method with one more parameter
abbrev pub with_parameter : MethodTree → List ℕ → Place → MethodTree
with_parameter m n p = record m { params = m.params ++ n ∷ []; param_places = m.param_places ++ p ∷ [] }

-- the method with a name for its result
abbrev pub with_result : MethodTree → List ℕ → Place → MethodTree
with_result m n p = record m { result_name = Some n; result_place = Some p }

-- the method with locals
abbrev pub with_locals : MethodTree → List Declared → MethodTree
with_locals m xs = record m { locals = xs }

-- locals, which are longs, or the end
abbrev pub behind_result : MethodTree → List Part → Option MethodTree
behind_result m (bar ∷ rest) = option_map (with_locals m) (variables 4 rest)
behind_result m (line_end ∷ []) = Some m
behind_result m _ = None

-- the name of the result, and then locals or the end
abbrev pub result_named : MethodTree → List Part → Option MethodTree
result_named m (name n p ∷ rest) = behind_result (with_result m n p) rest
result_named m _ = None

-- the result, locals or the end
abbrev pub behind_parameters : MethodTree → List Part → Option MethodTree
behind_parameters m (colon ∷ rest) = result_named m rest
behind_parameters m rest = behind_result m rest

abbrev mutual
  -- one parameter and those after it
  pub parameters : MethodTree → List Part → Option MethodTree
  parameters m (name n p ∷ rest) = behind_parameter (with_parameter m n p) rest
  parameters m _ = None

  -- what stands after a parameter
  pub behind_parameter : MethodTree → List Part → Option MethodTree
  behind_parameter m (comma ∷ rest) = parameters m rest
  behind_parameter m (right_parenthesis ∷ rest) = behind_parameters m rest
  behind_parameter m _ = None

-- parameters, the result, locals or the end
abbrev pub behind_name : MethodTree → List Part → Option MethodTree
behind_name m (left_parenthesis ∷ rest) = parameters m rest
behind_name m rest = behind_parameters m rest

-- the name and what stands after it
abbrev pub head : Bool → List Part → Option MethodTree
head public (name n p ∷ rest) = behind_name (bare public n p) rest
head public _ = None

-- what a row of pieces declares after PUB, or after PRI, unless it is no head of a method
abbrev pub method_of_row : Bool → List Piece → Option MethodTree
method_of_row public row = head public (parts row)
