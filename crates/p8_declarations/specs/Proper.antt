-- What lines of CON, VAR and OBJ and the heads of methods satisfy whose names, strings and expressions are proper.
use Rattle.std.specs.Prelude.{◌≡◌, Bool, false, List, length, Some, All}
use Rattle.p8_tree.specs.Sources.{Constant, Declared, Child, MethodTree}
use Rattle.p8_tree.specs.Names.{IsName}
use Rattle.p8_tree.specs.Proper.{IfThere, is_nothing, IsProperConstant, IsProperDeclared, IsProperLocal, IsProperChild}
use Rattle.p8_lexer.specs.Pieces.{Piece}
use Rattle.p8_lexer.specs.Proper.{AreProper}
use Rattle.p8_declarations.specs.Constants.{constants_of_row}
use Rattle.p8_declarations.specs.Variables.{variables_of_row}
use Rattle.p8_declarations.specs.Objects.{objects_of_row}
use Rattle.p8_declarations.specs.Methods.{method_of_row}

-- a proper method, but for its body
pub record IsProperHead (m : MethodTree) : Type 0 where
  pub name : IsName m.name
  pub params : All IsName m.params
  pub param_places : length m.param_places ≡ length m.params
  pub result_name : IfThere IsName m.result_name
  pub result_place : is_nothing m.result_place ≡ is_nothing m.result_name
  pub locals : All IsProperLocal m.locals

abbrev pub ConstantsAreProper : Type 0
ConstantsAreProper = (row : List Piece) (xs : List Constant) → AreProper false 64 row → constants_of_row row ≡ Some xs → All IsProperConstant xs

abbrev pub VariablesAreProper : Type 0
VariablesAreProper = (row : List Piece) (xs : List Declared) → AreProper false 64 row → variables_of_row row ≡ Some xs → All IsProperDeclared xs

abbrev pub ObjectsAreProper : Type 0
ObjectsAreProper = (row : List Piece) (xs : List Child) → AreProper false 64 row → objects_of_row row ≡ Some xs → All IsProperChild xs

abbrev pub HeadsAreProper : Type 0
HeadsAreProper = (public : Bool) (row : List Piece) (m : MethodTree) → AreProper false 64 row → method_of_row public row ≡ Some m → IsProperHead m
