-- internal
-- What each cog was last started with.
use Rattle.std.specs.Prelude.{ℕ, ◌≡◌, ◌<◌, List, Some, slice_get}
use Rattle.p8_access.specs.declared.kinds.Origin.{Origin}
use Rattle.p8_access.specs.declared.order.Turn.{Turn}
use Rattle.p8_access.specs.Worlds.{World}
use Rattle.p8_access.specs.Hub.{cog_state, origin_of}

-- these are the origins of the cogs after a past, one for each number that fits a byte
abbrev pub AreOrigins : World → List Turn → List Origin → Type 0
AreOrigins w past origins = (n : ℕ) → n < 256 → slice_get origins n ≡ Some (origin_of (cog_state w past n))
