-- internal
-- At which clocks a cog's front may be, and which comes first. A promise, and an access that isn't a wait, may come at
-- one clock, a wait at each clock at which it may end.
use Rattle.std.specs.Prelude.{ℕ, ◌+◌, ◌≡◌, ◌<◌, ◌≤◌, List, Option, Some, None}
use Rattle.p8_access.specs.declared.kinds.Test.{Test}
use Rattle.p8_access.specs.declared.lives.Next.{Next}
use Rattle.p8_access.specs.declared.lives.Next.TheVariants.{At, Quiet, More}
use Rattle.p8_access.specs.declared.order.Key.{Key}
use Rattle.p8_access.specs.declared.order.Turn.{Turn}
use Rattle.p8_access.specs.Windows.{window_of, Before}
use Rattle.p8_access.specs.declared.states.CogState.{CogState}
use Rattle.p8_access.specs.declared.states.CogState.TheVariants.{Stopped, Starting, Running}
use Rattle.p8_access.specs.Worlds.{World}
use Rattle.p8_access.specs.Hub.{cog_state}
use Rattle.p8_pins.specs.Matches.{IsBefore}
use Rattle.p8_ledger.specs.Records.{Record, turns, said}
use Rattle.p8_ledger.specs.Waiting.{test_in, Wakes}

-- an access that is asked from an earliest clock on may come at a clock, where it waits for a test
abbrev pub MayBe : World → List Turn → ℕ → Option Test → (earliest clock : ℕ) → Type 0
MayBe w past n None earliest clock = clock ≡ earliest
MayBe w past n (Some test) earliest clock = Wakes w past n test earliest clock

-- a running cog that has said this last
abbrev pub MayRun : World → List Turn → ℕ → Next → ℕ → Type 0
MayRun w past n (At earliest access) clock = MayBe w past n (test_in access) earliest clock
MayRun w past n Quiet clock = ⊥
MayRun w past n (More bound) clock = clock ≡ bound

abbrev pub MayComeIn : World → List Turn → ℕ → CogState → Next → ℕ → Type 0
MayComeIn w past n Stopped next clock = ⊥
MayComeIn w past n (Starting since origin) next clock = clock ≡ window_of n (since + 1)
MayComeIn w past n (Running origin) next clock = MayRun w past n next clock

-- a cog's front may be at this clock
pub record MayCome (w : World) (r : Record) (n clock : ℕ) : Type 0 where
  pub may : MayComeIn w (turns r) n (cog_state w (turns r) n) (said n r) clock
  pub below : clock < w.clocks

-- what a cog waits for
abbrev pub said_test : Next → Option Test
said_test (At earliest access) = test_in access
said_test Quiet = None
said_test (More bound) = None

abbrev pub waits_for : CogState → Next → Option Test
waits_for Stopped next = None
waits_for (Starting since origin) next = None
waits_for (Running origin) next = said_test next

-- a wait doesn't come before a clock
abbrev pub IsFrom : Option Test → (from clock : ℕ) → Type 0
IsFrom None from clock = Unit {0}
IsFrom (Some test) from clock = from ≤ clock

-- no wait may end before a clock
abbrev pub WaitsFrom : World → Record → ℕ → Type 0
WaitsFrom w r from = (n clock : ℕ) → MayCome w r n clock → IsFrom (waits_for (cog_state w (turns r) n) (said n r)) from clock

-- a clock of a cog for the search of what comes before an end: it doesn't come earlier, and where the clock is below
-- the limit it may come then
pub record IsClockIn (w : World) (r : Record) (end : Option ℕ) (n clock : ℕ) : Type 0 where
  pub least : (u : ℕ) → IsBefore u end → MayCome w r n u → clock ≤ u
  pub comes : clock < w.clocks → MayCome w r n clock

-- the key of what comes first of all before an end, where it is below the limit; else nothing comes before the end
pub record IsFirstKey (w : World) (r : Record) (end : Option ℕ) (key : Key) : Type 0 where
  pub first : (n clock : ℕ) → IsBefore clock end → MayCome w r n clock → Before (record { clock = clock; cog = n }) key → ⊥
  pub comes : key.clock < w.clocks → MayCome w r key.cog key.clock
