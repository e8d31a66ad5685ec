-- What contracts see of a strip: a list of at most so many items.
use Rattle.std.specs.Prelude.{ℕ, List, refl}
use Rattle.std.specs.Coded.{Coded, code_by, coded×, coded_list, coded_ℕ}

-- the items in order, and how many there may be
pub record Bounded (X : Type 0) : Type 0 where
  pub list : List X
  pub room : ℕ

module _ {X : Type 0} where
  abbrev pub bounded : List X → ℕ → Bounded X
  bounded xs n = record { list = xs; room = n }

  abbrev pub bounded_code : Coded X → Coded (Bounded X)
  bounded_code c = code_by (List X × ℕ) (coded× (coded_list c) coded_ℕ) (λ b. (b.list, b.room)) (λ p. bounded p.0 p.1) (λ _. refl)
