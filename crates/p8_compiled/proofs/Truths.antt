-- Tests of numbers, and truth values.
use Rattle.std.proofs.Common.{◌≡◌, refl, ap, arith, ℕ, ◌<◌, ◌≤◌, ◌==◌, not, ◌&&◌, ◌||◌, Bool, true, false, if◌then◌else◌, nat_lt, nat_le}
use Rattle.std.proofs.lemmas.Bool.Decides.{nat_tests}

-- ---- tests

pub equal : (a b : ℕ) → (a == b) ≡ true → a ≡ b
equal a b is = grind (arith, nat_tests)

pub below : (a b : ℕ) → nat_lt a b ≡ true → a < b
below a b is = grind (arith, nat_tests)

pub at-most : (a b : ℕ) → nat_le a b ≡ true → a ≤ b
at-most a b is = grind (arith, nat_tests)

pub less : (a b : ℕ) → a < b → nat_lt a b ≡ true
less a b is = grind (arith, nat_tests)

pub not-less : (a b : ℕ) → b ≤ a → nat_lt a b ≡ false
not-less a b is = grind (arith, nat_tests)

-- ---- truth values

pub first-true : (a b : Bool) → (a && b) ≡ true → a ≡ true
first-true true b is = refl
first-true false b is = absurd (cc)

pub second-true : (a b : Bool) → (a && b) ≡ true → b ≡ true
second-true true b is = is
second-true false b is = absurd (cc)

pub both-true : (a b : Bool) → (a && b) ≡ true → (a ≡ true) × (b ≡ true)
both-true a b is = (first-true a b is, second-true a b is)

pub or-right : (a b : Bool) → b ≡ true → (a || b) ≡ true
or-right true b is = refl
or-right false b is = is

pub or-either : {X : Type 0} (a b : Bool) → (a || b) ≡ true → (a ≡ true → X) → (b ≡ true → X) → X
or-either true b is f g = f refl
or-either false b is f g = g is

pub implied : (a b : Bool) → (not a || b) ≡ true → a ≡ true → b ≡ true
implied true b is given = is
implied false b is given = absurd (cc)

pub is-no : (b : Bool) → not b ≡ true → b ≡ false
is-no true is = absurd (cc)
is-no false is = refl

-- ---- choices

pub if-yes : {X : Type 0} (b : Bool) (x y : X) → b ≡ true → (if b then x else y) ≡ x
if-yes b x y is = ap (λ c. if c then x else y) is

pub if-no : {X : Type 0} (b : Bool) (x y : X) → b ≡ false → (if b then x else y) ≡ y
if-no b x y is = ap (λ c. if c then x else y) is

pub swapped : {X : Type 0} (b : Bool) (x y : X) → (if b then x else y) ≡ (if not b then y else x)
swapped true x y = refl
swapped false x y = refl
