-- internal: what is known while the children of a project's files are found.
use Rattle.std.specs.Prelude.{◌≡◌, ℕ, ◌<◌, ◌≤◌, List, [], ◌∷◌, length, Option, Some, slice_get, slice_index, slice_set, IsSome, Contains}
use Rattle.std.specs.List.{filter_map}
use Rattle.p8_tree.specs.Sources as trees
use Rattle.p8_tree.specs.Sources.{Source}
use Rattle.p8_tree.specs.Projects.{NamedSource}
use Rattle.p8_constants.specs.Graphs.{targets_of}
use Rattle.p8_kinds.specs.declared.children.Child.{Child}
use Rattle.p8_kinds.specs.declared.children.Children.{Children}
use Rattle.p8_names.specs.Mentions.{IsNamed, mentions}
use Rattle.p8_names.specs.Children.{IsChildOf}

-- the first files by their names
pub record HasNumbers (files : List NamedSource) (count : ℕ) (at : List ℕ → Option ℕ) : Type 0 where
  pub sound : (name : List ℕ) (j : ℕ) → at name ≡ Some j → IsNamed files j name
  pub complete : (name : List ℕ) (j : ℕ) → j < count → IsNamed files j name → IsSome (at name)

-- the numbers of the files that items of OBJ name
abbrev pub AreTargets : List NamedSource → List trees.Child → List ℕ → Type 0
AreTargets files [] [] = Unit {0}
AreTargets files (x ∷ xs) (j ∷ js) = IsNamed files j x.file × AreTargets files xs js
AreTargets files xs js = ⊥

-- an edge leads from each file to each that it mentions
pub record IsGraphOf (files : List NamedSource) (g : List (List ℕ)) : Type 0 where
  pub size : length g ≡ length files
  pub each : (i : ℕ) (f : NamedSource) → slice_get files i ≡ Some f → AreTargets files (mentions f.tree) (targets_of g i)

-- no file of an order leads to itself or to a later one
abbrev pub NoneLeadsOn : List (List ℕ) → List ℕ → Type 0
NoneLeadsOn g order = (q place t : ℕ) → q ≤ place → place < length order → Contains (targets_of g (slice_index order q)) t → ¬ (t ≡ slice_index order place)

-- a file has been looked at: its children are what is seen of its targets, and what is seen of itself stands at its number
pub record IsLookedAt (file : Source) (targets : List ℕ) (node : ℕ) (children : List Children) (seen : List Child) (children_now : List Children)
    (seen_now : List Child) : Type 0 where
  pub own : Children
  pub child : Child
  pub from : own.items ≡ filter_map (slice_get seen) targets
  pub is : IsChildOf file own.items child
  pub puts_own : children_now ≡ slice_set children node own
  pub puts_child : seen_now ≡ slice_set seen node child

-- what stands at the number of a file that has been looked at
pub record IsDone (files : List NamedSource) (g : List (List ℕ)) (children : List Children) (seen : List Child) (i : ℕ) : Type 0 where
  pub file : NamedSource
  pub stands : slice_get files i ≡ Some file
  pub own : Children
  pub beside : slice_get children i ≡ Some own
  pub child : Child
  pub shown : slice_get seen i ≡ Some child
  pub from : own.items ≡ filter_map (slice_get seen) (targets_of g i)
  pub is : IsChildOf file.tree own.items child

-- the first files of an order have been looked at
pub record AreDone (files : List NamedSource) (g : List (List ℕ)) (order : List ℕ) (place : ℕ) (children : List Children) (seen : List Child) : Type 0 where
  pub one_each : length children ≡ length files
  pub one_seen : length seen ≡ length files
  pub done : (q : ℕ) → q < place → IsDone files g children seen (slice_index order q)
