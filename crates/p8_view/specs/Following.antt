-- internal: what the code keeps of a past.
use Rattle.std.specs.Prelude.{ℕ, ◌≡◌, Bool, true, false, List, Option, map}
use Rattle.p8_access.specs.declared.kinds.Access.{Access}
use Rattle.p8_access.specs.declared.kinds.Access.TheVariants.{CogInit, CogStop, OutSet, DirSet, Halt}
use Rattle.p8_access.specs.declared.order.Turn.{Turn}
use Rattle.p8_access.specs.Worlds.{World}
use Rattle.p8_access.specs.Hub.{cogs, cog_state, origin_of}
use Rattle.p8_access.specs.Pins.{outa_of, dira_of}
use Rattle.p8_view.specs.declared.cogs.Cogs.{Cogs}
use Rattle.p8_view.specs.declared.doings.Doings.{Doings}
use Rattle.p8_view.specs.Ending.{doing, last_asking, last_of}
use Rattle.p8_view.specs.Drives.{drives_of}
use Rattle.p8_view.specs.View.{loading}

-- of each cog what it was started with, how many reads of its load are left, and its registers OUTA and DIRA
pub record AreParts (w : World) (past : List Turn) (c : Cogs) : Type 0 where
  pub origins : c.origins ≡ map (λ (n : ℕ). origin_of (cog_state w past n)) cogs
  pub left : c.left ≡ map (λ (n : ℕ). loading past n) cogs
  pub outa : c.outa ≡ map (λ (n : ℕ). outa_of past n) cogs
  pub dira : c.dira ≡ map (λ (n : ℕ). dira_of past n) cogs

-- the same, and what the cogs do to the pins
pub record AreCogs (w : World) (past : List Turn) (c : Cogs) : Type 0 where
  pub origins : c.origins ≡ map (λ (n : ℕ). origin_of (cog_state w past n)) cogs
  pub left : c.left ≡ map (λ (n : ℕ). loading past n) cogs
  pub outa : c.outa ≡ map (λ (n : ℕ). outa_of past n) cogs
  pub dira : c.dira ≡ map (λ (n : ℕ). dira_of past n) cogs
  pub drives : c.drives ≡ drives_of past

-- an access that may change what the cogs do to the pins
abbrev pub may_drive : Access → Bool
may_drive (CogInit target origin) = true
may_drive (CogStop cog) = true
may_drive (OutSet value) = true
may_drive (DirSet value) = true
may_drive (Halt reason) = true
may_drive access = false

-- of each cog what it is doing, the clock of its last turn, and by what it asked that
pub record AreDoings (w : World) (counters : List (Option ℕ)) (past : List Turn) (d : Doings) : Type 0 where
  pub doings : d.doings ≡ map (λ (n : ℕ). doing past n) cogs
  pub last : d.last ≡ map (λ (n : ℕ). last_of past n) cogs
  pub askings : d.askings ≡ map (λ (n : ℕ). last_asking w counters past n) cogs
