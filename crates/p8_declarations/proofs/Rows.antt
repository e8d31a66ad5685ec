-- Rows that break off inside an item are none.
use Rattle.std.proofs.Common.{◌≡◌, refl, ℕ, Bool, false, List, [], ◌∷◌, Option, None}
use Rattle.p8_tree.specs.declared.places.Place.{Place}
use Rattle.p8_tree.specs.Expressions.{Tree}
use Rattle.p8_tree.specs.Sources.{MethodTree}
use Rattle.p8_declarations.specs.Parts.{Part, line_end, equals, hash, colon, left_bracket, right_bracket, size, name, text, tree}
use Rattle.p8_declarations.specs.Constants.{constants, constants_named}
use Rattle.p8_declarations.specs.Variables.{variables_named, sized_variables}
use Rattle.p8_declarations.specs.Objects.{object_named, in_file}
use Rattle.p8_declarations.specs.Methods.{parameters, result_named, head}
use Rattle.p8_declarations.specs.Views.{has_value, has_count, has_size, has_name, has_colon, has_file}

pub no_value : (p : Place) (row : List Part) → has_value row ≡ false → constants (hash p ∷ row) ≡ None
no_value p (tree e ∷ rest) h = cc
no_value p _ h = refl

pub no_value_named : (n : List ℕ) (p : Place) (row : List Part) → has_value row ≡ false → constants_named n p (equals ∷ row) ≡ None
no_value_named n p (tree e ∷ rest) h = cc
no_value_named n p _ h = refl

pub no_step : (n : List ℕ) (p : Place) (row : List Part) → has_count row ≡ false → constants_named n p (left_bracket ∷ row) ≡ None
no_step n p (tree e ∷ right_bracket ∷ rest) h = cc
no_step n p _ h = refl

pub no_size : (row : List Part) → has_size row ≡ false → sized_variables row ≡ None
no_size (size s ∷ rest) h = cc
no_size _ h = refl

pub no_count : (s : ℕ) (n : List ℕ) (p : Place) (row : List Part) → has_count row ≡ false → variables_named s n p (left_bracket ∷ row) ≡ None
no_count s n p (tree e ∷ right_bracket ∷ rest) h = cc
no_count s n p _ h = refl

pub no_objects : (n : List ℕ) (p : Place) (row : List Part) → has_count row ≡ false → object_named n p (left_bracket ∷ row) ≡ None
no_objects n p (tree e ∷ right_bracket ∷ rest) h = cc
no_objects n p _ h = refl

pub no_colon : (n : List ℕ) (p : Place) (e : Tree) (row : List Part) → has_colon row ≡ false → object_named n p (left_bracket ∷ tree e ∷ right_bracket ∷ row) ≡ None
no_colon n p e (colon ∷ rest) h = cc
no_colon n p e _ h = refl

pub no_file : (n : List ℕ) (p : Place) (count : Option Tree) (row : List Part) → has_file row ≡ false → in_file n p count row ≡ None
no_file n p count (text t q ∷ line_end ∷ []) h = cc
no_file n p count _ h = refl

pub no_parameter : (m : MethodTree) (row : List Part) → has_name row ≡ false → parameters m row ≡ None
no_parameter m (name n p ∷ rest) h = cc
no_parameter m _ h = refl

pub no_result : (m : MethodTree) (row : List Part) → has_name row ≡ false → result_named m row ≡ None
no_result m (name n p ∷ rest) h = cc
no_result m _ h = refl

pub no_head : (public : Bool) (row : List Part) → has_name row ≡ false → head public row ≡ None
no_head public (name n p ∷ rest) h = cc
no_head public _ h = refl
