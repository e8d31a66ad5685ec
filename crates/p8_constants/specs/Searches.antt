-- How far a search for components has come, which goes on from the node that was found last.
--
-- Open nodes stand on a stack. Boundaries cut the stack into the components that are known so far: in each all nodes lead to
-- each other, and each component leads to those above it. A second stack has the targets of edges that are still to be
-- followed, cut by the same boundaries. The component on top is finished when its edges are used up.
use Rattle.std.specs.Prelude.{◌≡◌, ℕ, ◌+◌, ◌-◌, ◌<◌, ◌≤◌, List, [], ◌∷◌, length, slice_index_or, Contains}
use Rattle.p8_constants.specs.declared.search.NodeState.{NodeState}
use Rattle.p8_constants.specs.declared.search.NodeState.TheVariants.{New, Open, Done}
use Rattle.p8_constants.specs.declared.search.Boundary.{Boundary}
use Rattle.p8_constants.specs.Graphs.{IsEdge, Reaches}

abbrev pub mark : List NodeState → ℕ → NodeState
mark marks a = slice_index_or marks a New

abbrev pub node_at : List ℕ → ℕ → ℕ
node_at nodes p = slice_index_or nodes p 0

abbrev pub boundary_at : List Boundary → ℕ → Boundary
boundary_at bs k = slice_index_or bs k (record { node = 0; target = 0 })

-- a sum over the nodes that aren't found yet
abbrev pub total_of_new : (List ℕ → ℕ) → List (List ℕ) → List NodeState → ℕ
total_of_new f [] marks = 0
total_of_new f (ts ∷ g) [] = 0
total_of_new f (ts ∷ g) (New ∷ marks) = f ts + total_of_new f g marks
total_of_new f (ts ∷ g) (Open p ∷ marks) = total_of_new f g marks
total_of_new f (ts ∷ g) (Done n ∷ marks) = total_of_new f g marks

-- an edge to b of a node of the component k or above: b is finished, on the stack in k or above, still to be followed, or
-- the one that is held
pub data IsSeen (Held : ℕ → Type 0) (marks : List NodeState) (nodes targets : List ℕ) (boundary : Boundary) (b : ℕ) : Type 0 where
  finished : (number : ℕ) → mark marks b ≡ Done number → IsSeen Held marks nodes targets boundary b
  stacked : (q : ℕ) → q < length nodes → node_at nodes q ≡ b → boundary.node ≤ q → IsSeen Held marks nodes targets boundary b
  ahead : (x : ℕ) → x < length targets → node_at targets x ≡ b → boundary.target ≤ x → IsSeen Held marks nodes targets boundary b
  held : Held b → IsSeen Held marks nodes targets boundary b

-- edges to what is held may have been taken from the stack and not followed yet
pub record IsSearch (g : List (List ℕ)) (Held : ℕ → Type 0) (marks : List NodeState) (nodes targets : List ℕ) (bs : List Boundary) (count : ℕ) : Type 0 where
  pub size : length marks ≡ length g
  pub placed : (p : ℕ) → p < length nodes → mark marks (node_at nodes p) ≡ Open p
  pub stands : (a p : ℕ) → mark marks a ≡ Open p → (p < length nodes) × (node_at nodes p ≡ a)
  pub nodes_are : (p : ℕ) → p < length nodes → node_at nodes p < length g
  pub targets_are : (x : ℕ) → x < length targets → node_at targets x < length g
  pub bounded : 0 < length nodes → 0 < length bs
  pub first : (boundary_at bs 0).node ≡ 0
  pub within : (k : ℕ) → k < length bs → ((boundary_at bs k).node < length nodes) × ((boundary_at bs k).target ≤ length targets)
  pub rising : (k l : ℕ) → k < l → l < length bs → ((boundary_at bs k).node < (boundary_at bs l).node) × ((boundary_at bs k).target ≤ (boundary_at bs l).target)
  pub chain : (i j : ℕ) → i ≤ j → j < length nodes → Reaches g (node_at nodes i) (node_at nodes j)
  pub back : (k j : ℕ) → k < length bs → (boundary_at bs k).node ≤ j → j < length nodes →
      ((l : ℕ) → k < l → l < length bs → j < (boundary_at bs l).node) → Reaches g (node_at nodes j) (node_at nodes (boundary_at bs k).node)
  pub pending : (k x : ℕ) → k < length bs → (boundary_at bs k).target ≤ x → x < length targets →
      Reaches g (node_at nodes (boundary_at bs k).node) (node_at targets x)
  pub seen : (k j b : ℕ) → k < length bs → (boundary_at bs k).node ≤ j → j < length nodes → IsEdge g (node_at nodes j) b →
      IsSeen Held marks nodes targets (boundary_at bs k) b
  pub falls : (a b n : ℕ) → mark marks a ≡ Done n → IsEdge g a b → (m : ℕ) × (mark marks b ≡ Done m) × (m ≤ n)
  pub numbered : (a n : ℕ) → mark marks a ≡ Done n → n < count
  pub same : (a b n : ℕ) → mark marks a ≡ Done n → mark marks b ≡ Done n → Reaches g a b
  pub room : count + length bs + total_of_new (λ ts. 1) g marks ≤ length g

-- what a search is, without where it lies in memory
pub record State : Type 0 where
  pub marks : List NodeState
  pub nodes : List ℕ
  pub targets : List ℕ
  pub boundaries : List Boundary
  pub count : ℕ

abbrev pub IsStateHolding : List (List ℕ) → (ℕ → Type 0) → State → Type 0
IsStateHolding g Held s = IsSearch g Held s.marks s.nodes s.targets s.boundaries s.count

abbrev pub IsState : List (List ℕ) → State → Type 0
IsState g s = IsStateHolding g (λ b. ⊥) s

-- what is left to do: it falls with each step
abbrev pub work : List (List ℕ) → State → ℕ
work g s = total_of_new (λ ts. length ts + 2) g s.marks + length s.targets + length s.boundaries

-- each component reaches this node
abbrev pub IsReached : List (List ℕ) → State → ℕ → Type 0
IsReached g s a = (k : ℕ) → k < length s.boundaries → Reaches g (node_at s.nodes (boundary_at s.boundaries k).node) a

-- the boundaries that are left of some, where those above a position are dropped
pub record IsCut (old : List Boundary) (position : ℕ) (kept : ℕ) : Type 0 where
  pub within : kept ≤ length old
  pub above : (k : ℕ) → kept ≤ k → k < length old → position < (boundary_at old k).node
  pub below : 0 < kept → (boundary_at old (kept - 1)).node ≤ position

-- these nodes got a number, and nothing else changed
pub record IsClosed (old : List NodeState) (nodes : List ℕ) (number : ℕ) (new : List NodeState) : Type 0 where
  pub size : length new ≡ length old
  pub closed : (p : ℕ) → p < length nodes → mark new (node_at nodes p) ≡ Done number
  pub others : (a : ℕ) → ¬ Contains nodes a → mark new a ≡ mark old a

-- what was found stays found
pub record IsFurther (old new : List NodeState) : Type 0 where
  pub found : (a : ℕ) → ¬ (mark old a ≡ New) → ¬ (mark new a ≡ New)

abbrev pub number_of : NodeState → ℕ
number_of New = 0
number_of (Open p) = 0
number_of (Done n) = n
