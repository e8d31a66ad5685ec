-- internal: what the code's spots stand for.
use Rattle.std.specs.Prelude.{ℕ, List, map, Option, option_map, slice_get}
use Rattle.p8_tree.specs.declared.places.Place.{Place}
use Rattle.p8_tree.specs.declared.statements.Stmt.{Stmt}
use Rattle.p8_tree.specs.Views.{tree_of}
use Rattle.p8_hint.specs.declared.spot.Spot.{Spot}
use Rattle.p8_hint.specs.declared.spot.Spot.TheVariants as spot_case
use Rattle.p8_hint.specs.Spots as spots

abbrev pub spot_of : Spot → spots.Spot
spot_of (spot_case.Name n) = spots.name n.now
spot_of (spot_case.Reach n) = spots.reach n.now
spot_of (spot_case.Start a b) = spots.start (tree_of a.now) (tree_of b.now)
spot_of (spot_case.Port e) = spots.port (tree_of e.now)
spot_of (spot_case.Test e) = spots.test (tree_of e.now)
spot_of (spot_case.Bare p) = spots.bare p
spot_of (spot_case.Behind p) = spots.behind p

abbrev pub spots_of : List Spot → List spots.Spot
spots_of xs = map spot_of xs

-- where the statement of this number stands, where there is one
abbrev pub place_at : List Stmt → ℕ → Option Place
place_at ss n = option_map (λ (s : Stmt). s.place) (slice_get ss n)
