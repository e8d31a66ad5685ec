-- The places of a desk's passes.
use Rattle.std.specs.Prelude.{ℕ, ◌≡◌, ◌<◌, true, List, Option, Some, None, length, slice_get, zero, suc, false, [], ◌∷◌, ◌++◌}
use Rattle.p8_desk.specs.Passes.{PassValue, DeskValue, Owns}
use Rattle.atomic_table.specs.Seated.{TableId}
use Rattle.p8_access.specs.Worlds.{World}

-- there are eight, and each pass stands at its cog's
pub record InPlace (places : List (Option PassValue)) : Type 0 where
  pub eight : length places ≡ 8
  pub each : (n : ℕ) (pass : PassValue) → slice_get places n ≡ Some (Some pass) → pass.cog ≡ n

abbrev pub IsOut : ℕ → List (Option PassValue) → Type 0
IsOut n places = slice_get places n ≡ Some None

-- all eight passes are there, and the desk owns them
pub record AllThere (desk : DeskValue) (places : List (Option PassValue)) : Type 0 where
  pub each : (n : ℕ) → n < 8 → (pass : PassValue) × (slice_get places n ≡ Some (Some pass)) × Owns desk pass × (pass.cog ≡ n)

-- one of them is over
abbrev pub HasOver : List (Option PassValue) → Type 0
HasOver places = (n : ℕ) × (pass : PassValue) × (slice_get places n ≡ Some (Some pass)) × (pass.over ≡ true)

-- a pass that has made no step and seen none
abbrev pub fresh : World → TableId → ℕ → PassValue
fresh w table cog = record { world = w; table = table; cog = cog; steps = record { own = []; seen = []; won = 0; found = [] }; over = false }

-- the passes of so many cogs, each at its place
abbrev pub new_places : World → TableId → ℕ → List (Option PassValue)
new_places w table zero = []
new_places w table (suc n) = new_places w table n ++ Some (fresh w table n) ∷ []
