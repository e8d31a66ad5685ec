-- The order of places: by line, then by column. The first refusal of several is the one at the least place.
use Rattle.std.specs.Prelude.{◌≡◌, ◌<◌, ◌⊎◌, Bool, nat_lt, ◌==◌, ◌&&◌, ◌||◌, if◌then◌else◌, Option, Some, None}
use Rattle.p8_tree.specs.declared.places.Place.{Place}

abbrev pub PlaceBefore : Place → Place → Type 0
PlaceBefore p q = (p.line < q.line) ⊎ ((p.line ≡ q.line) × (p.column < q.column))

abbrev pub is_before : Place → Place → Bool
is_before p q = nat_lt p.line q.line || ((p.line == q.line) && nat_lt p.column q.column)

-- the lesser of two places
abbrev pub lesser : Place → Place → Place
lesser p q = if is_before q p then q else p

-- the lesser of two places, where there may be none
abbrev pub lesser_of : Option Place → Option Place → Option Place
lesser_of None q = q
lesser_of (Some p) None = Some p
lesser_of (Some p) (Some q) = Some (lesser p q)

-- the least of the places of which a fact holds
pub record IsLeastPlace (P : Place → Type 0) (p : Place) : Type 0 where
  pub holds : P p
  pub least : (q : Place) → P q → ¬ PlaceBefore q p
