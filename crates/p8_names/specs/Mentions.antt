-- Which file of a project mentions which: each item of OBJ names a file (Propeller Manual v1.2, "OBJ" of the Spin chapter).
use Rattle.std.specs.Prelude.{◌≡◌, ℕ, List, Some, slice_get, Contains}
use Rattle.p8_tree.specs.Sources.{Child, Source}
use Rattle.p8_tree.specs.Projects.{NamedSource}
use Rattle.p8_constants.specs.FileItems.{items}
use Rattle.p8_names.specs.Kinds.{objects}

-- the items of OBJ of a file, in order
abbrev pub mentions : Source → List Child
mentions file = objects (items file)

-- the file of this number has this name
pub record IsNamed (files : List NamedSource) (i : ℕ) (name : List ℕ) : Type 0 where
  pub file : NamedSource
  pub stands : slice_get files i ≡ Some file
  pub named : file.name ≡ name

-- an item of OBJ of one file names the other
pub record Mentions (files : List NamedSource) (one other : ℕ) : Type 0 where
  pub file : NamedSource
  pub stands : slice_get files one ≡ Some file
  pub item : Child
  pub among : Contains (mentions file.tree) item
  pub named : IsNamed files other item.file

-- from one file mentions lead to the other
pub data Leads (files : List NamedSource) : ℕ → ℕ → Type 0 where
  there : {i : ℕ} → Leads files i i
  over : {one between other : ℕ} → Mentions files one between → Leads files between other → Leads files one other

-- no two files have one name
abbrev pub AreDistinct : List NamedSource → Type 0
AreDistinct files = (i j : ℕ) (name : List ℕ) → IsNamed files i name → IsNamed files j name → i ≡ j

-- the file of each item of OBJ is among them
abbrev pub HaveMentioned : List NamedSource → Type 0
HaveMentioned files = (i : ℕ) (f : NamedSource) (x : Child) → slice_get files i ≡ Some f → Contains (mentions f.tree) x → (j : ℕ) × IsNamed files j x.file

-- no mention leads back to the file in which it stands
abbrev pub HaveNoRing : List NamedSource → Type 0
HaveNoRing files = (one other : ℕ) → Mentions files one other → ¬ Leads files other one
