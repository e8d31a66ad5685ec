-- Items that are read of a row whose names, strings and expressions are proper.
use Rattle.std.proofs.Common.{arith, ◌≡◌, ℕ, Bool, true, false, List, [], ◌∷◌, ◌++◌, Option, Some, None, length, refl, sym, ap, ◌∙◌, subst}
use Rattle.std.specs.Prelude.{IsTrue, if◌then◌else◌, option_map, ◌<◌, ◌+◌, ◌==◌, ◌||◌, codes, All}
use Rattle.std.specs.List.{list_any}
use Rattle.std.proofs.lemmas.List.{length-append}
use Rattle.std.proofs.lemmas.List.Elements.{All-nil, All-cons, All-append}
use Rattle.p8_tree.specs.declared.places.Place.{Place}
use Rattle.p8_tree.specs.Expressions.{Tree}
use Rattle.p8_tree.specs.Sources.{Declared, Child, MethodTree}
use Rattle.p8_tree.specs.Names.{IsName, IsQuoted, IsString, has_dot, IsFileName}
use Rattle.p8_tree.specs.Proper as proper
use Rattle.p8_tree.specs.Proper.{IfThere, is_size, IsProperExpression, IsProperConstant, IsProperDeclared, IsProperLocal, IsProperChild}
use Rattle.p8_lexer.specs.declared.word.Word.{Word}
use Rattle.p8_lexer.specs.declared.word.Word.TheVariants as word_case
use Rattle.p8_lexer.specs.Pieces as pieces
use Rattle.p8_lexer.specs.Pieces.{Piece}
use Rattle.p8_lexer.specs.Proper.{AreProper}
use Rattle.p8_declarations.specs.Parts.{Part, line_end, comma, equals, hash, colon, bar, left_parenthesis, right_parenthesis, left_bracket, right_bracket, size, name, text, tree, part_of_word, parts, is_line_end, ended, with_first}
use Rattle.p8_declarations.specs.Constants.{setting, constant, constants, constants_named, constants_behind}
use Rattle.p8_declarations.specs.Variables.{variable, variables, variables_named, variables_behind, sized_variables}
use Rattle.p8_declarations.specs.Objects.{file_of, in_file, object_named, object, alone}
use Rattle.p8_declarations.specs.Methods.{bare, with_parameter, with_result, with_locals, behind_result, result_named, behind_parameters, parameters, behind_parameter, behind_name, head}
use Rattle.p8_declarations.specs.Proper.{IsProperHead, ConstantsAreProper, VariablesAreProper, ObjectsAreProper, HeadsAreProper}

-- parts

abbrev IsValue : Tree → Type 0
IsValue e = IsProperExpression false e

abbrev IsProperPart : Part → Type 0
IsProperPart (size z) = IsTrue (is_size z)
IsProperPart (name n p) = IsName n
IsProperPart (text t p) = IsString t
IsProperPart (tree e) = IsValue e
IsProperPart x = Unit {0}

abbrev AreParts : List Part → Type 0
AreParts [] = Unit {0}
AreParts (x ∷ row) = IsProperPart x × AreParts row

word_proper : (w : Word) (p : Place) → IsProperPart (part_of_word w p)
unfolding part_of_word
word_proper word_case.ByteSize p = refl
word_proper word_case.WordSize p = refl
word_proper word_case.LongSize p = refl
word_proper _ p = tt

are_parts : (row : List Piece) → AreProper false 64 row → AreParts (parts row)
are_parts [] a = tt
are_parts (pieces.word w p ∷ row) a = (word_proper w p, are_parts row a)
are_parts (pieces.name n p ∷ row) a = (a.0, are_parts row a.1)
are_parts (pieces.label n p ∷ row) a = (tt, are_parts row a.1)
are_parts (pieces.text t p ∷ row) a = (a.0, are_parts row a.1)
are_parts (pieces.tree e p ∷ row) a = (a.0, are_parts row a.1)

-- what is read has this property
abbrev Gives : {X : Type 0} → (X → Type 0) → Option X → Type 0
Gives P None = Unit {0}
Gives P (Some x) = P x

first : {X : Type 0} (P : X → Type 0) (x : X) (o : Option (List X)) → P x → Gives (All P) o → Gives (All P) (with_first x o)
first P x None h k = tt
first P x (Some xs) h k = All-cons P x xs h k

ended_gives : {X : Type 0} (P : X → Type 0) (row : List Part) → Gives (All P) (ended {A = X} row)
ended_gives P [] = All-nil P
ended_gives P (x ∷ row) = tt

unless_ended : {X : Type 0} (P : X → Type 0) (b : Bool) (o : Option (List X)) → Gives (All P) o → Gives (All P) (if b then Some [] else o)
unless_ended P true o h = All-nil P
unless_ended P false o h = h

-- CON

mutual
  constants_give : (row : List Part) → AreParts row → Gives (All IsProperConstant) (constants row)
  constants_give (hash p ∷ tree e ∷ rest) a = first IsProperConstant (setting p e) (constants_behind rest) (proper.setting a.1.0) (behind_gives rest a.1.1)
  constants_give (name n p ∷ rest) a = named_give n p rest a.0 a.1
  constants_give row a = tt

  named_give : (n : List ℕ) (p : Place) (row : List Part) → IsName n → AreParts row → Gives (All IsProperConstant) (constants_named n p row)
  named_give n p (equals ∷ tree e ∷ rest) is a = first IsProperConstant (constant n p (Some e) None) (constants_behind rest) (proper.with_value is a.1.0) (behind_gives rest a.1.1)
  named_give n p (left_bracket ∷ tree e ∷ right_bracket ∷ rest) is a = first IsProperConstant (constant n p None (Some e)) (constants_behind rest) (proper.counted is a.1.0) (behind_gives rest a.1.1.1)
  named_give n p (comma ∷ rest) is a = first IsProperConstant (constant n p None None) (constants rest) (proper.counted is tt) (constants_give rest a.1)
  named_give n p (line_end ∷ rest) is a = first IsProperConstant (constant n p None None) (ended rest) (proper.counted is tt) (ended_gives IsProperConstant rest)
  named_give n p row is a = tt

  behind_gives : (row : List Part) → AreParts row → Gives (All IsProperConstant) (constants_behind row)
  behind_gives (comma ∷ rest) a = constants_give rest a.1
  behind_gives (line_end ∷ rest) a = ended_gives IsProperConstant rest
  behind_gives row a = tt

pub constants_proper : ConstantsAreProper
constants_proper row xs a e = subst (Gives (All IsProperConstant)) e (unless_ended IsProperConstant (is_line_end (parts row)) (constants (parts row)) (constants_give (parts row) (are_parts row a)))

-- VAR, and locals

module _ (P : Declared → Type 0) (s : ℕ) (is : (n : List ℕ) (p : Place) (count : Option Tree) → IsName n → IfThere IsValue count → P (variable s n p count)) where
  mutual
    variables_give : (row : List Part) → AreParts row → Gives (All P) (variables s row)
    variables_give (name n p ∷ rest) a = variables_named_give n p rest a.0 a.1
    variables_give row a = tt

    variables_named_give : (n : List ℕ) (p : Place) (row : List Part) → IsName n → AreParts row → Gives (All P) (variables_named s n p row)
    variables_named_give n p (left_bracket ∷ tree e ∷ right_bracket ∷ rest) h a = first P (variable s n p (Some e)) (variables_behind s rest) (is n p (Some e) h a.1.0) (variables_behind_give rest a.1.1.1)
    variables_named_give n p (comma ∷ rest) h a = first P (variable s n p None) (variables s rest) (is n p None h tt) (variables_give rest a.1)
    variables_named_give n p (line_end ∷ rest) h a = first P (variable s n p None) (ended rest) (is n p None h tt) (ended_gives P rest)
    variables_named_give n p row h a = tt

    variables_behind_give : (row : List Part) → AreParts row → Gives (All P) (variables_behind s row)
    variables_behind_give (comma ∷ rest) a = variables_give rest a.1
    variables_behind_give (line_end ∷ rest) a = ended_gives P rest
    variables_behind_give row a = tt

sized_give : (row : List Part) → AreParts row → Gives (All IsProperDeclared) (sized_variables row)
sized_give (size s ∷ rest) a = variables_give IsProperDeclared s (λ n p count h c. record { size = a.0; name = h; count = c }) rest a.1
sized_give row a = tt

pub variables_proper : VariablesAreProper
variables_proper row xs a e = subst (Gives (All IsProperDeclared)) e (unless_ended IsProperDeclared (is_line_end (parts row)) (sized_variables (parts row)) (sized_give (parts row) (are_parts row a)))

-- OBJ

same_dot : (t : List ℕ) → list_any (λ c. c == 46) t ≡ has_dot t
same_dot [] = refl
same_dot (c ∷ t) = ap (λ b. (c == 46) || b) (same_dot t)

or_right : (a b : Bool) → IsTrue b → IsTrue (a || b)
or_right true b h = refl
or_right false b h = h

has_dot_behind : (t : List ℕ) → IsTrue (has_dot (t ++ codes ".spin"))
has_dot_behind [] = refl
has_dot_behind (c ∷ t) = or_right (c == 46) (has_dot (t ++ codes ".spin")) (has_dot_behind t)

quoted : (c : ℕ) → c < 256 → (c ≡ 34 → ⊥) → (c ≡ 10 → ⊥) → (c ≡ 13 → ⊥) → IsQuoted c
quoted c a b d e = (a, b, d, e)

spin_quoted : All IsQuoted (codes ".spin")
spin_quoted =
    All-cons IsQuoted 46 (codes "spin") (quoted 46 (omega arith) (λ e. cc) (λ e. cc) (λ e. cc))
    (All-cons IsQuoted 115 (codes "pin") (quoted 115 (omega arith) (λ e. cc) (λ e. cc) (λ e. cc))
    (All-cons IsQuoted 112 (codes "in") (quoted 112 (omega arith) (λ e. cc) (λ e. cc) (λ e. cc))
    (All-cons IsQuoted 105 (codes "n") (quoted 105 (omega arith) (λ e. cc) (λ e. cc) (λ e. cc))
    (All-cons IsQuoted 110 [] (quoted 110 (omega arith) (λ e. cc) (λ e. cc) (λ e. cc)) (All-nil IsQuoted)))))

longer : (t : List ℕ) → 0 < length t → 0 < length (t ++ codes ".spin")
longer [] h = omega arith
longer (c ∷ t) h = omega arith

file_proper : (t : List ℕ) → IsString t → IsFileName (file_of t)
unfolding file_of
file_proper t h = go (list_any (λ c. c == 46) t) (same_dot t)
  where
    go : (b : Bool) → b ≡ has_dot t → IsFileName (if b then t else t ++ codes ".spin")
    go true e = (h, sym e)
    go false e = ((longer t h.0, All-append IsQuoted t (codes ".spin") h.1 spin_quoted), has_dot_behind t)

file_gives : (n : List ℕ) (p : Place) (count : Option Tree) (row : List Part) → IsName n → IfThere IsValue count → AreParts row → Gives IsProperChild (in_file n p count row)
file_gives n p count (text t q ∷ line_end ∷ []) is c a = record { name = is; count = c; file = file_proper t a.0 }
file_gives n p count row is c a = tt

object_named_gives : (n : List ℕ) (p : Place) (row : List Part) → IsName n → AreParts row → Gives IsProperChild (object_named n p row)
object_named_gives n p (colon ∷ rest) is a = file_gives n p None rest is tt a.1
object_named_gives n p (left_bracket ∷ tree e ∷ right_bracket ∷ colon ∷ rest) is a = file_gives n p (Some e) rest is a.1.0 a.1.1.1.1
object_named_gives n p row is a = tt

object_gives : (row : List Part) → AreParts row → Gives IsProperChild (object row)
object_gives (name n p ∷ rest) a = object_named_gives n p rest a.0 a.1
object_gives row a = tt

alone_gives : (o : Option Child) → Gives IsProperChild o → Gives (All IsProperChild) (alone o)
alone_gives None h = tt
alone_gives (Some x) h = All-cons IsProperChild x [] h (All-nil IsProperChild)

pub objects_proper : ObjectsAreProper
objects_proper row xs a e = subst (Gives (All IsProperChild)) e (unless_ended IsProperChild (is_line_end (parts row)) (alone (object (parts row))) (alone_gives (object (parts row)) (object_gives (parts row) (are_parts row a))))

-- heads of methods

with_locals_proper : (m : MethodTree) (o : Option (List Declared)) → IsProperHead m → Gives (All IsProperLocal) o → Gives IsProperHead (option_map (with_locals m) o)
with_locals_proper m None h k = tt
with_locals_proper m (Some xs) h k = record { name = h.name; params = h.params; param_places = h.param_places; result_name = h.result_name; result_place = h.result_place; locals = k }

result_gives : (m : MethodTree) (row : List Part) → IsProperHead m → AreParts row → Gives IsProperHead (behind_result m row)
result_gives m (bar ∷ rest) h a = with_locals_proper m (variables 4 rest) h (variables_give IsProperLocal 4 (λ n p count is c. record { long = refl; name = is; count = c }) rest a.1)
result_gives m (line_end ∷ []) h a = h
result_gives m row h a = tt

result_named_gives : (m : MethodTree) (row : List Part) → IsProperHead m → AreParts row → Gives IsProperHead (result_named m row)
result_named_gives m (name n p ∷ rest) h a =
    result_gives (with_result m n p) rest (record { name = h.name; params = h.params; param_places = h.param_places; result_name = a.0; result_place = refl; locals = h.locals }) a.1
result_named_gives m row h a = tt

behind_parameters_give : (m : MethodTree) (row : List Part) → IsProperHead m → AreParts row → Gives IsProperHead (behind_parameters m row)
behind_parameters_give m (colon ∷ rest) h a = result_named_gives m rest h a.1
behind_parameters_give m row h a = result_gives m row h a

one_more : (m : MethodTree) (n : List ℕ) (p : Place) → IsProperHead m → IsName n → IsProperHead (with_parameter m n p)
one_more m n p h is = record {
  name = h.name;
  params = All-append IsName m.params (n ∷ []) h.params (All-cons IsName n [] is (All-nil IsName));
  param_places = length-append m.param_places (p ∷ []) ∙ ap (λ k. k + 1) h.param_places ∙ sym (length-append m.params (n ∷ []));
  result_name = h.result_name;
  result_place = h.result_place;
  locals = h.locals;
}

mutual
  parameters_give : (m : MethodTree) (row : List Part) → IsProperHead m → AreParts row → Gives IsProperHead (parameters m row)
  parameters_give m (name n p ∷ rest) h a = behind_parameter_gives (with_parameter m n p) rest (one_more m n p h a.0) a.1
  parameters_give m row h a = tt

  behind_parameter_gives : (m : MethodTree) (row : List Part) → IsProperHead m → AreParts row → Gives IsProperHead (behind_parameter m row)
  behind_parameter_gives m (comma ∷ rest) h a = parameters_give m rest h a.1
  behind_parameter_gives m (right_parenthesis ∷ rest) h a = behind_parameters_give m rest h a.1
  behind_parameter_gives m row h a = tt

behind_name_gives : (m : MethodTree) (row : List Part) → IsProperHead m → AreParts row → Gives IsProperHead (behind_name m row)
behind_name_gives m (left_parenthesis ∷ rest) h a = parameters_give m rest h a.1
behind_name_gives m row h a = behind_parameters_give m row h a

head_gives : (public : Bool) (row : List Part) → AreParts row → Gives IsProperHead (head public row)
head_gives public (name n p ∷ rest) a =
    behind_name_gives (bare public n p) rest (record { name = a.0; params = All-nil IsName; param_places = refl; result_name = tt; result_place = refl; locals = All-nil IsProperLocal }) a.1
head_gives public row a = tt

pub heads_proper : HeadsAreProper
heads_proper public row m a e = subst (Gives IsProperHead) e (head_gives public (parts row) (are_parts row a))
