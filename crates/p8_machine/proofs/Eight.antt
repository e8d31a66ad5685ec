-- What is true of each item of a list is true of the one at any place.
use Rattle.std.proofs.Common.{◌≡◌, ℕ, zero, suc, List, [], ◌∷◌, Some, slice_get, subst}

module _ {X : Type 0} where
  same-item : (x y : X) → Some x ≡ Some y → x ≡ y
  same-item x y e = cc

  pub first-at : (P : ℕ → X → Type 0) (x : X) (xs : List X) → P 0 x → ((n : ℕ) (y : X) → slice_get xs n ≡ Some y → P (suc n) y) → (n : ℕ) (y : X) → slice_get (x ∷ xs) n ≡ Some y → P n y
  first-at P x xs here rest zero y at = subst (P 0) (same-item x y at) here
  first-at P x xs here rest (suc n) y at = rest n y at

  pub none-at : (P : ℕ → X → Type 0) (n : ℕ) (y : X) → slice_get [] n ≡ Some y → P n y
  none-at P n y at = absurd cc
