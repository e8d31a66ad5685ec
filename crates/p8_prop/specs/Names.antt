-- What the names of a file mean where a constant is needed, and what it sees of the files of its objects (Propeller Manual v1.2, "CON" and "OBJ" of the
-- Spin chapter). A constant may be used before its line. That none needs itself is no part of it: what is run was accepted.
use Rattle.std.specs.Prelude.{◌≡◌, ℕ, ◌+◌, ◌%◌, ◌^◌, if◌then◌else◌, List, [], ◌∷◌, ◌++◌, length, map, Option, Some, None, is_some, option_map, option_and_then}
use Rattle.std.specs.Prelude.{slice_get}
use Rattle.std.specs.List.{flat_map, zip}
use Rattle.std.specs.Map.{lookup}
use Rattle.std.specs.Option.{option_or}
use Rattle.std.specs.Str.{bytes_eq}
use Rattle.p8_tree.specs.Expressions.{Tree}
use Rattle.p8_tree.specs.Sources as trees
use Rattle.p8_tree.specs.Sources.{Constant, BlockTree, Con, Source}
use Rattle.p8_tree.specs.Projects.{NamedSource}
use Rattle.p8_fold.specs.declared.meanings.Meaning.TheVariants.{Value}
use Rattle.p8_fold.specs.Meanings.{Setting, outside_operands}
use Rattle.p8_fold.specs.Values.{value}
use Rattle.p8_constants.specs.Constants.{counted}
use Rattle.p8_constants.specs.FileItems.{items}
use Rattle.p8_constants.specs.Names.{predefined_names}
use Rattle.p8_kinds.specs.declared.children.Child.{Child}
use Rattle.p8_kinds.specs.declared.children.Children.{Children}
use Rattle.p8_names.specs.Settings.{definition, predefined_value, meaning_of_item}
use Rattle.p8_names.specs.Kinds.{objects}
use Rattle.p8_names.specs.Children.{as_list, methods_from, constants_from}
use Rattle.p8_names.specs.Mentions.{mentions}

-- ---- one file

-- the value of an expression, or this where there is none
abbrev pub value_or : Setting → ℕ → Option Tree → ℕ
value_or s v None = v
value_or s v (Some e) = counted (value s e) % 2 ^ 32

-- The counter of a block of CON behind an item: an item that sets it sets it, and a name without a value moves it by 1, or by what its brackets say.
abbrev pub counter_behind : Setting → ℕ → Constant → ℕ
counter_behind s counter x =
    if x.sets then value_or s counter x.value else if is_some x.value then counter else (counter + value_or s 1 x.step) % 2 ^ 32

-- the named items of a block from where its counter is this, each with its value
abbrev pub named_from : Setting → ℕ → List Constant → List (List ℕ × ℕ)
named_from s counter [] = []
named_from s counter (x ∷ xs) = map (λ n. (n, value_or s counter x.value)) (as_list x.name) ++ named_from s (counter_behind s counter x) xs

-- those of a block; its counter begins at 0
abbrev pub constants_in : Setting → BlockTree → List (List ℕ × ℕ)
constants_in s (Con xs) = named_from s 0 xs
constants_in s b = []

-- the value of a constant of an object's file; of several objects with one name the first counts, and so of constants
abbrev pub constant_behind : Source → List Child → (owner name : List ℕ) → Option ℕ
constant_behind file children owner name =
    option_and_then (λ (c : Child). lookup (bytes_eq name) (map (λ x. (x.name, x.value)) c.consts))
    (lookup (bytes_eq owner) (zip (map (λ x. x.name) (objects (items file))) children))

-- What the names of a file mean: first what the language defines, then what is no constant by its first definition, and then the constants of the file,
-- each worth what its item says by these very meanings.
pub record IsSetting (file : Source) (children : List Child) (s : Setting) : Type 0 where
  pub names : (n : List ℕ) → s.name n ≡ option_or (option_map Value (predefined_value n))
      (option_or (option_and_then meaning_of_item (definition (items file) n)) (option_map Value (lookup (bytes_eq n) (flat_map (constants_in s) file))))
  pub behind : (owner n : List ℕ) → s.constant owner n ≡ option_map Value (constant_behind file children owner n)
  pub here : s.here ≡ outside_operands None

-- what is seen of a file, by what it sees itself of the files of its objects
pub record IsChildOf (file : Source) (children : List Child) (child : Child) : Type 0 where
  pub methods : child.methods ≡ methods_from predefined_names (items file)
  pub setting : Setting
  pub right : IsSetting file children setting
  pub constants : child.consts ≡ constants_from setting predefined_names (items file)

-- ---- a project, where each file has its children

-- what is seen of a file of this name
pub record IsSeen (files : List NamedSource) (all : List Children) (name : List ℕ) (child : Child) : Type 0 where
  pub number : ℕ
  pub file : NamedSource
  pub stands : slice_get files number ≡ Some file
  pub named : file.name ≡ name
  pub children : Children
  pub beside : slice_get all number ≡ Some children
  pub is : IsChildOf file.tree children.items child

-- these children, one for each of some items of OBJ
abbrev pub AreSeen : List NamedSource → List Children → List trees.Child → List Child → Type 0
AreSeen files all [] [] = Unit {0}
AreSeen files all (x ∷ xs) (c ∷ cs) = IsSeen files all x.file c × AreSeen files all xs cs
AreSeen files all xs cs = ⊥

-- what each file sees of the files of its objects, in the order of the files
pub record AreChildren (files : List NamedSource) (all : List Children) : Type 0 where
  pub one_each : length all ≡ length files
  pub each : (i : ℕ) (f : NamedSource) (c : Children) → slice_get files i ≡ Some f → slice_get all i ≡ Some c → AreSeen files all (mentions f.tree) c.items
