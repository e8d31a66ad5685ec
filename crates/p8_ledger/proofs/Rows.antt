-- Lists of eight by their places.
use Rattle.std.proofs.Common.{◌≡◌, ◌∙◌, ap, sym, refl, ℕ, zero, suc, ◌<◌, get_or, List, [], ◌∷◌, ◌++◌, slice_index_or, Some, None, slice_get, length, arith}
use Rattle.std.proofs.Math.ListN.{set}
use Rattle.std.proofs.lemmas.Option.{slice_get_read}

-- there is an item at each place
pub some-at : {A : Type 0} → (xs : List A) (n : ℕ) → n < length xs → (x : A) × (slice_get xs n ≡ Some x)
some-at [] n below = absurd (omega arith)
some-at (x ∷ xs) zero below = (x, refl)
some-at (x ∷ xs) (suc n) below = some-at xs n (omega arith)

-- one item changed
module _ {A : Type 0} where
  pub set-there : (xs : List A) (k : ℕ) (x y : A) → slice_get (set xs k x) k ≡ Some y → y ≡ x
  set-there [] k x y at = absurd (let e : None ≡ Some y = at in cc)
  set-there (z ∷ xs) zero x y at = cc
  set-there (z ∷ xs) (suc k) x y at = set-there xs k x y at

  pub set-else : (xs : List A) (k n : ℕ) (x y : A) → (n ≡ k → ⊥) → slice_get (set xs k x) n ≡ Some y → slice_get xs n ≡ Some y
  set-else [] k n x y differ at = at
  set-else (z ∷ xs) zero zero x y differ at = absurd (differ refl)
  set-else (z ∷ xs) zero (suc n) x y differ at = at
  set-else (z ∷ xs) (suc k) zero x y differ at = at
  set-else (z ∷ xs) (suc k) (suc n) x y differ at = set-else xs k n x y (λ e. differ (ap suc e)) at

  pub same-there : (xs : List A) (k : ℕ) (x y : A) → k < length xs → x ≡ get_or xs k x → slice_get xs k ≡ Some y → y ≡ x
  same-there xs k x y below is at =
      let there : slice_get xs k ≡ Some x = slice_get_read xs (length xs) k x refl below is in
      let e : Some y ≡ Some x = sym at ∙ there in
      cc

-- a list that ends with its last item
pub ends-last : {A : Type 0} → (d : A) (xs : List A) (k : ℕ) → length xs ≡ suc k → (before : List A) × (xs ≡ before ++ slice_index_or xs k d ∷ [])
ends-last d [] k is = absurd (omega arith)
ends-last d (x ∷ []) zero is = ([], refl)
ends-last d (x ∷ []) (suc k) is = absurd (omega arith)
ends-last d (x ∷ y ∷ xs) zero is = absurd (omega arith)
ends-last d (x ∷ y ∷ xs) (suc k) is =
    let rest = ends-last d (y ∷ xs) k (omega arith) in
    (x ∷ rest.0, ap (λ l. x ∷ l) rest.1)

-- an item of a list that was set
pub set-same : {A : Type 0} → (xs : List A) (k : ℕ) (x : A) → k < length xs → slice_get (set xs k x) k ≡ Some x
set-same [] k x within = absurd (omega arith)
set-same (y ∷ xs) zero x within = refl
set-same (y ∷ xs) (suc k) x within = set-same xs k x (omega arith)

pub set-other : {A : Type 0} → (xs : List A) (k n : ℕ) (x : A) → (n ≡ k → ⊥) → slice_get (set xs k x) n ≡ slice_get xs n
set-other [] k n x differ = refl
set-other (y ∷ xs) zero zero x differ = absurd (differ refl)
set-other (y ∷ xs) zero (suc n) x differ = refl
set-other (y ∷ xs) (suc k) zero x differ = refl
set-other (y ∷ xs) (suc k) (suc n) x differ = set-other xs k n x (λ e. differ (ap suc e))

-- an item that is set twice
pub set-twice : {A : Type 0} → (xs : List A) (k : ℕ) (x y : A) → set (set xs k y) k x ≡ set xs k x
set-twice [] k x y = refl
set-twice (z ∷ xs) zero x y = refl
set-twice (z ∷ xs) (suc k) x y = ap (λ l. z ∷ l) (set-twice xs k x y)

-- what is read at a place
pub got-item : {A : Type 0} → (xs : List A) (n : ℕ) (x d : A) → slice_get xs n ≡ Some x → x ≡ get_or xs n d
got-item [] n x d at = absurd (let e : None ≡ Some x = at in cc)
got-item (y ∷ xs) zero x d at = cc
got-item (y ∷ xs) (suc n) x d at = got-item xs n x d at
