-- Elements of lists.
use Rattle.std.specs.Prelude.{◌≡◌, ℕ, List, ◌∷◌, Some, slice_get}

-- the element of this number, counted from 0
pub record IsAt {X : Type 0} (xs : List X) (i : ℕ) (x : X) : Type 0 where
  pub is : slice_get xs i ≡ Some x

-- an element of the list is so
pub record HasOne {X : Type 0} (P : X → Type 0) (xs : List X) : Type 0 where
  pub number : ℕ
  pub element : X
  pub stands : IsAt xs number element
  pub holds : P element

-- the first element of the list that is so
pub data IsFirst {X : Type 0} (P : X → Type 0) : List X → X → Type 0 where
  here : {x : X} {xs : List X} → P x → IsFirst P (x ∷ xs) x
  later : {x y : X} {xs : List X} → ¬ P y → IsFirst P xs x → IsFirst P (y ∷ xs) x

-- the last element of the list that is so
pub data IsLast {X : Type 0} (P : X → Type 0) : List X → X → Type 0 where
  here : {x : X} {xs : List X} → P x → ¬ HasOne P xs → IsLast P (x ∷ xs) x
  later : {x y : X} {xs : List X} → IsLast P xs x → IsLast P (y ∷ xs) x
