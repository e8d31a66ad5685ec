-- What a row of places holds.
use Rattle.std.specs.Prelude.{◌≡◌, ℕ, List, [], ◌∷◌, length, map, take, Option, Some, None}

module _ {X : Type 0} where
  -- the values that are there
  abbrev pub somes : List (Option X) → List X
  somes [] = []
  somes (None ∷ cs) = somes cs
  somes (Some x ∷ cs) = x ∷ somes cs

  -- each of the first n places holds a value
  abbrev pub IsFilled : List (Option X) → ℕ → Type 0
  IsFilled cs n = (xs : List X) × (length xs ≡ n) × (take n cs ≡ map Some xs)
