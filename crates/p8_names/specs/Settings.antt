-- What the names of a file mean where a constant is needed (Propeller Manual v1.2, "CON" and "OBJ" of the Spin chapter).
--
-- The first definition of a name counts. A constant of the file has its value; an object stands before `#`, and after it the
-- constants of its file; all other names are no constants.
use Rattle.std.specs.Prelude.{◌≡◌, ℕ, Bool, false, ◌||◌, if◌then◌else◌, List, [], ◌∷◌, ◌++◌, map, Option, Some, None, IsSome, option_map}
use Rattle.std.specs.Map.{lookup}
use Rattle.std.specs.Str.{bytes_eq}
use Rattle.p8_tree.specs.Sources.{Source}
use Rattle.p8_fold.specs.declared.meanings.Meaning.{Meaning}
use Rattle.p8_fold.specs.declared.meanings.Meaning.TheVariants as meaning_case
use Rattle.p8_fold.specs.Meanings.{Setting, outside_operands}
use Rattle.p8_constants.specs.Items as con
use Rattle.p8_constants.specs.Constants.{scope_of, IsConstant, Has}
use Rattle.p8_constants.specs.FileItems.{Item, constant, object, items}
use Rattle.p8_constants.specs.Names.{predefined, name_of}
use Rattle.p8_kinds.specs.declared.children.Child.{Child}

-- ---- the first definition of a name

abbrev pub has_name : Option (List ℕ) → List ℕ → Bool
has_name None n = false
has_name (Some m) n = bytes_eq n m

-- the first of some items that defines a name
abbrev pub definition : List Item → List ℕ → Option Item
definition [] n = None
definition (x ∷ xs) n = if has_name (name_of x) n then Some x else definition xs n

-- the value of a constant that the language defines
abbrev pub predefined_value : List ℕ → Option ℕ
predefined_value n = lookup (bytes_eq n) predefined

-- ---- the constants of objects

-- an object with what is seen of its file, the first of what is left, and what is left after it
abbrev pub object_with : Item → List Child → List (List ℕ × Child)
object_with (object x) (c ∷ cs) = (x.name, c) ∷ []
object_with x cs = []

abbrev pub children_behind : Item → List Child → List Child
children_behind (object x) (c ∷ cs) = cs
children_behind x cs = cs

-- the objects of a file with what is seen of their files, item by item
abbrev pub with_children : List Item → List Child → List (List ℕ × Child)
with_children [] cs = []
with_children (x ∷ xs) cs = object_with x cs ++ with_children xs (children_behind x cs)

abbrev pub constants_of : Child → List (List ℕ × ℕ)
constants_of c = map (λ x. (x.name, x.value)) c.consts

abbrev pub constant_of_child : Option Child → List ℕ → Option ℕ
constant_of_child None n = None
constant_of_child (Some c) n = lookup (bytes_eq n) (constants_of c)

-- the value of a constant of an object's file
abbrev pub constant_behind : List Item → List Child → List ℕ → List ℕ → Option ℕ
constant_behind xs children owner n = constant_of_child (lookup (bytes_eq owner) (with_children xs children)) n

-- ---- settings

-- the meaning of a name by its first definition; those of CON have values, which are found by themselves
abbrev pub meaning_of_item : Item → Option Meaning
meaning_of_item (constant x) = None
meaning_of_item (object x) = Some meaning_case.Object
meaning_of_item x = Some meaning_case.Other

abbrev pub meaning_outside : Option ℕ → Option Item → Option Meaning
meaning_outside (Some v) x = Some (meaning_case.Value v)
meaning_outside None None = None
meaning_outside None (Some x) = meaning_of_item x

-- what all names mean but the constants of the file
abbrev pub outside_of : List Item → List Child → Setting
outside_of xs children = record {
  name = λ n. meaning_outside (predefined_value n) (definition xs n);
  constant = λ owner n. option_map meaning_case.Value (constant_behind xs children owner n);
  here = outside_operands None;
}

abbrev pub outside : Source → List Child → Setting
outside file children = outside_of (items file) children

-- what the names of a file mean
pub record IsSetting (file : Source) (children : List Child) (s : Setting) : Type 0 where
  pub others : (n : List ℕ) → IsSome ((outside file children).name n) → s.name n ≡ (outside file children).name n
  pub constants : (n : List ℕ) → IsConstant (scope_of (outside file children) file) n →
      (v : ℕ) × (s.name n ≡ Some (meaning_case.Value v)) × Has (scope_of (outside file children) file) n v
  pub nothing : (n : List ℕ) → (outside file children).name n ≡ None → con.definition (con.definitions file) n ≡ None → s.name n ≡ None
  pub behind : (owner n : List ℕ) → s.constant owner n ≡ (outside file children).constant owner n
  pub here : s.here ≡ (outside file children).here

-- whether a name is one of these
abbrev pub is_one_of : List (List ℕ) → List ℕ → Bool
is_one_of [] n = false
is_one_of (m ∷ ms) n = bytes_eq n m || is_one_of ms n

-- what names mean where these are no constants: a method's own names, in the method
abbrev pub hiding : List (List ℕ) → Setting → Setting
hiding names s = record s { name = λ n. if is_one_of names n then Some meaning_case.Other else s.name n }
