-- internal: what the code's values stand for.
use Rattle.std.specs.Prelude.{◌≡◌, ◌⊎◌, ◌≤◌, ℕ, List, map, Option, MatchOption, is_some, IsTrue, Contains, ◌↔◌}
use Rattle.p8_tree.specs.Views.{constant_of, declared_of, child_of, method_of, line_of}
use Rattle.p8_tree.specs.declared.faults.Fault.{Fault}
use Rattle.p8_tree.specs.Faults.{IsFirstFault}
use Rattle.p8_fold.specs.ConstantEntries.{at_bytes}
use Rattle.p8_constants.specs.declared.items.Item.{Item}
use Rattle.p8_constants.specs.declared.items.Item.TheVariants as item_case
use Rattle.p8_constants.specs.declared.names.Defined.{Defined}
use Rattle.p8_constants.specs.declared.language.NamedConstant.{NamedConstant}
use Rattle.p8_constants.specs.declared.name_set.NameSet.{NameSet}
use Rattle.p8_constants.specs.FileItems as items
use Rattle.p8_constants.specs.Names as names

abbrev pub item_of : Item → items.Item
item_of (item_case.Constant x) = items.constant (constant_of x.now)
item_of (item_case.Variable x) = items.variable (declared_of x.now)
item_of (item_case.Object x) = items.object (child_of x.now)
item_of (item_case.Method x) = items.method (method_of x.now)
item_of (item_case.Line x) = items.line (line_of x.now)

abbrev pub items_of : List Item → List items.Item
items_of xs = map item_of xs

abbrev pub defined_of : Defined → names.Defined
defined_of d = names.defined d.name.now d.place

abbrev pub all_defined_of : List Defined → List names.Defined
all_defined_of ds = map defined_of ds

-- what is told of a set of faults: its first one, or that there is none
abbrev pub IsFirstOf : Option Fault → (Fault → Type 0) → Type 0
IsFirstOf told IsFault = MatchOption told ((f : Fault) → ¬ IsFault f) (IsFirstFault IsFault)

-- a set has these names
pub record Holds (set : NameSet) (names : List (List ℕ)) : Type 0 where
  pub each : (n : List ℕ) → IsTrue (is_some (at_bytes n set.names)) ↔ Contains names n

-- a number of instances is counted as far as 256
abbrev pub IsCapped : ℕ → ℕ → Type 0
IsCapped n all = (n ≡ all) ⊎ ((n ≡ 256) × (256 ≤ all))

-- the names of constants with their values
abbrev pub valued : List NamedConstant → List (List ℕ × ℕ)
valued ps = map (λ p. (p.name, p.value)) ps
