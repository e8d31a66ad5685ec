-- What a file sees of the files of its objects: their PUBs and their constants (Propeller Manual v1.2, "OBJ", "PUB" and "CON" of
-- the Spin chapter).
--
-- Of several definitions of one name in a file the first counts, for its users too; the constants that the language defines are
-- there from the start, before all that the file defines. PUBs are told by their numbers, so one whose name is defined before it
-- has an entry without a name.
use Rattle.std.specs.Prelude.{◌≡◌, ℕ, min, length, if◌then◌else◌, List, [], ◌∷◌, ◌++◌, Option, Some, None, slice_get}
use Rattle.p8_tree.specs.Sources as trees
use Rattle.p8_tree.specs.Sources.{MethodTree, Source}
use Rattle.p8_tree.specs.Projects.{NamedSource}
use Rattle.p8_fold.specs.Meanings.{Setting}
use Rattle.p8_constants.specs.FileItems.{Item, constant, method, items}
use Rattle.p8_constants.specs.Names.{name_of, predefined_names}
use Rattle.p8_kinds.specs.declared.children.Child.{Child}
use Rattle.p8_kinds.specs.declared.children.ChildMethod.{ChildMethod}
use Rattle.p8_kinds.specs.declared.children.ChildConst.{ChildConst}
use Rattle.p8_kinds.specs.declared.children.Children.{Children}
use Rattle.p8_names.specs.Settings.{IsSetting, is_one_of}
use Rattle.p8_names.specs.Kinds.{value_in, greatest_number}
use Rattle.p8_names.specs.Mentions.{mentions}

-- ---- one file

abbrev pub as_list : Option (List ℕ) → List (List ℕ)
as_list None = []
as_list (Some n) = n ∷ []

-- the names that are defined before an item, and then also by it
abbrev pub behind : List (List ℕ) → Item → List (List ℕ)
behind before x = before ++ as_list (name_of x)

-- a PUB, by its name and how many parameters it has
abbrev pub shown_name : List (List ℕ) → List ℕ → List ℕ
shown_name before n = if is_one_of before n then [] else n

abbrev pub shown_method : List (List ℕ) → MethodTree → ChildMethod
shown_method before m = record { name = shown_name before m.name; params = min (length m.params) greatest_number }

abbrev pub method_at : List (List ℕ) → Item → List ChildMethod
method_at before (method m) = if m.public then shown_method before m ∷ [] else []
method_at before x = []

-- the PUBs of items that stand after these names
abbrev pub methods_from : List (List ℕ) → List Item → List ChildMethod
methods_from before [] = []
methods_from before (x ∷ xs) = method_at before x ++ methods_from (behind before x) xs

-- a constant of CON, by its name and its value
abbrev pub named_constant : Setting → List (List ℕ) → Option (List ℕ) → List ChildConst
named_constant s before None = []
named_constant s before (Some n) = if is_one_of before n then [] else record { name = n; value = value_in s (Some n) } ∷ []

abbrev pub constant_at : Setting → List (List ℕ) → Item → List ChildConst
constant_at s before (constant x) = named_constant s before x.name
constant_at s before x = []

abbrev pub constants_from : Setting → List (List ℕ) → List Item → List ChildConst
constants_from s before [] = []
constants_from s before (x ∷ xs) = constant_at s before x ++ constants_from s (behind before x) xs

-- what is seen of a file, by what it sees itself of the files of its objects
pub record IsChildOf (file : Source) (children : List Child) (child : Child) : Type 0 where
  pub methods : child.methods ≡ methods_from predefined_names (items file)
  -- what the names of the file mean where a constant is needed
  pub setting : Setting
  pub right : IsSetting file children setting
  pub constants : child.consts ≡ constants_from setting predefined_names (items file)

-- ---- a project, where each file has its children

-- what is seen of a file of this name
pub record IsSeen (files : List NamedSource) (all : List Children) (name : List ℕ) (child : Child) : Type 0 where
  pub number : ℕ
  pub file : NamedSource
  pub stands : slice_get files number ≡ Some file
  pub named : file.name ≡ name
  pub children : Children
  pub beside : slice_get all number ≡ Some children
  pub is : IsChildOf file.tree children.items child

-- these children, one for each of some items of OBJ
abbrev pub AreSeen : List NamedSource → List Children → List trees.Child → List Child → Type 0
AreSeen files all [] [] = Unit {0}
AreSeen files all (x ∷ xs) (c ∷ cs) = IsSeen files all x.file c × AreSeen files all xs cs
AreSeen files all xs cs = ⊥

-- what each file sees of the files of its objects, in the order of the files
pub record AreChildren (files : List NamedSource) (all : List Children) : Type 0 where
  pub one_each : length all ≡ length files
  pub each : (i : ℕ) (f : NamedSource) (c : Children) → slice_get files i ≡ Some f → slice_get all i ≡ Some c → AreSeen files all (mentions f.tree) c.items
