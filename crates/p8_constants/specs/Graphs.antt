-- Graphs, and which nodes lead to which. A graph is the list of its nodes' targets: node k is the list's element k, and an edge
-- leads from it to each number that stands there.
use Rattle.std.specs.Prelude.{ℕ, ◌<◌, List, [], length, slice_index_or, Contains}

abbrev pub targets_of : List (List ℕ) → ℕ → List ℕ
targets_of g a = slice_index_or g a []

-- an edge leads from a to b
pub record IsEdge (g : List (List ℕ)) (a b : ℕ) : Type 0 where
  pub target : Contains (targets_of g a) b

-- each edge leads to a node of the graph
abbrev pub HasItsTargets : List (List ℕ) → Type 0
HasItsTargets g = (a b : ℕ) → IsEdge g a b → b < length g

-- edges lead from a to b, one after the other, or none where a is b
pub data Reaches (g : List (List ℕ)) : ℕ → ℕ → Type 0 where
  itself : {a : ℕ} → Reaches g a a
  along : {a b c : ℕ} → IsEdge g a b → Reaches g b c → Reaches g a c
