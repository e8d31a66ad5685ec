-- The lines of CON, VAR and OBJ and the heads of methods (Propeller Manual v1.2, "CON", "VAR", "OBJ", "PUB" and "PRI").
use Rattle.std.specs.Prelude.{ℕ, Bool, List, [], ◌∷◌, Option, Some, None, option_map}
use Rattle.p8_tree.specs.Sources.{Constant, Declared, Child, MethodTree}
use Rattle.p8_lexer.specs.declared.word.Word.TheVariants.{LineEnd, Comma, EqualSign, Hash, Colon, BitOr, LeftParenthesis, RightParenthesis, LeftBracket}
use Rattle.p8_lexer.specs.declared.word.Word.TheVariants.{RightBracket, ByteSize, WordSize, LongSize}
use Rattle.p8_lexer.specs.Pieces.{Piece, word, name, text, tree}
use Rattle.p8_declarations.specs.Constants.{setting, constant}
use Rattle.p8_declarations.specs.Variables.{variable}
use Rattle.p8_declarations.specs.Objects.{child}
use Rattle.p8_declarations.specs.Methods.{bare, with_parameter, with_result, with_locals}

-- an item in front of those behind it, where those are any
abbrev pub with_first : {A : Type 0} → A → Option (List A) → Option (List A)
with_first x xs = option_map (λ xs. x ∷ xs) xs

-- ---- CON: items `name = e`, `#e`, `name` and `name[e]`, with commas between them

abbrev mutual
  pub constants : List Piece → Option (List Constant)
  constants (word Hash p ∷ tree e q ∷ row) = with_first (setting p e) (constants_behind row)
  constants (name n p ∷ word EqualSign q ∷ tree e r ∷ row) = with_first (constant n p (Some e) None) (constants_behind row)
  constants (name n p ∷ word LeftBracket q ∷ tree e r ∷ word RightBracket s ∷ row) = with_first (constant n p None (Some e)) (constants_behind row)
  constants (name n p ∷ row) = with_first (constant n p None None) (constants_behind row)
  constants _ = None

  pub constants_behind : List Piece → Option (List Constant)
  constants_behind (word Comma p ∷ row) = constants row
  constants_behind (word LineEnd p ∷ []) = Some []
  constants_behind _ = None

abbrev pub constants_of : List Piece → Option (List Constant)
constants_of (word LineEnd p ∷ []) = Some []
constants_of row = constants row

-- ---- VAR, and the locals of a method: names with counts in brackets, with commas between them

abbrev mutual
  pub variables : ℕ → List Piece → Option (List Declared)
  variables s (name n p ∷ word LeftBracket q ∷ tree e r ∷ word RightBracket t ∷ row) = with_first (variable s n p (Some e)) (variables_behind s row)
  variables s (name n p ∷ row) = with_first (variable s n p None) (variables_behind s row)
  variables s _ = None

  pub variables_behind : ℕ → List Piece → Option (List Declared)
  variables_behind s (word Comma p ∷ row) = variables s row
  variables_behind s (word LineEnd p ∷ []) = Some []
  variables_behind s _ = None

abbrev pub variables_of : List Piece → Option (List Declared)
variables_of (word ByteSize p ∷ row) = variables 1 row
variables_of (word WordSize p ∷ row) = variables 2 row
variables_of (word LongSize p ∷ row) = variables 4 row
variables_of (word LineEnd p ∷ []) = Some []
variables_of _ = None

-- ---- OBJ: `name : "file"` or `name[e] : "file"`

abbrev pub objects_of : List Piece → Option (List Child)
objects_of (name n p ∷ word Colon q ∷ text t r ∷ word LineEnd s ∷ []) = Some (child n p None t r ∷ [])
objects_of (name n p ∷ word LeftBracket q ∷ tree e r ∷ word RightBracket s ∷ word Colon u ∷ text t v ∷ word LineEnd w ∷ []) =
    Some (child n p (Some e) t v ∷ [])
objects_of (word LineEnd p ∷ []) = Some []
objects_of _ = None

-- ---- the head of a method, behind PUB or PRI: a name, parameters in parentheses, `: name` for the result and `| name, name[e]` for locals, which are
-- longs

abbrev pub behind_result : MethodTree → List Piece → Option MethodTree
behind_result m (word BitOr p ∷ row) = option_map (with_locals m) (variables 4 row)
behind_result m (word LineEnd p ∷ []) = Some m
behind_result m _ = None

abbrev pub behind_parameters : MethodTree → List Piece → Option MethodTree
behind_parameters m (word Colon p ∷ name n q ∷ row) = behind_result (with_result m n q) row
behind_parameters m row = behind_result m row

abbrev pub parameters : MethodTree → List Piece → Option MethodTree
parameters m (name n p ∷ word Comma q ∷ row) = parameters (with_parameter m n p) row
parameters m (name n p ∷ word RightParenthesis q ∷ row) = behind_parameters (with_parameter m n p) row
parameters m _ = None

abbrev pub method_of : Bool → List Piece → Option MethodTree
method_of public (name n p ∷ word LeftParenthesis q ∷ row) = parameters (bare public n p) row
method_of public (name n p ∷ row) = behind_parameters (bare public n p) row
method_of public _ = None
