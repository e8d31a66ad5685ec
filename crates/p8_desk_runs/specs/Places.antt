-- internal
-- Passes that are out of their set, each at its cog's place.
use Rattle.std.specs.Prelude.{◌≡◌, Option, Some, None}
use Rattle.p8_desk.specs.Passes.{DeskValue, PassValue, Owns}

-- what is at a place is a pass that the desk owns
abbrev pub IsOwned : DeskValue → Option PassValue → Type 0
IsOwned desk None = ⊥
IsOwned desk (Some pass) = Owns desk pass

-- it is then still there, for the same cog
abbrev pub IsKept : DeskValue → Option PassValue → Option PassValue → Type 0
IsKept desk place None = ⊥
IsKept desk None (Some after) = ⊥
IsKept desk (Some pass) (Some after) = Owns desk after × (after.cog ≡ pass.cog)
