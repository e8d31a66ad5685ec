-- The front of a cog: the clock before which no turn of it comes.
use Rattle.std.specs.Prelude.{ℕ, ◌+◌, ◌≡◌, ◌<◌, ◌≤◌, List, Option, Some, None, slice_index}
use Rattle.p8_access.specs.declared.kinds.Test.{Test}
use Rattle.p8_access.specs.declared.lives.Next.{Next}
use Rattle.p8_access.specs.declared.lives.Next.TheVariants.{At, Quiet, More}
use Rattle.p8_access.specs.declared.order.Key.{Key}
use Rattle.p8_access.specs.Windows.{window_of, Before}
use Rattle.p8_access.specs.declared.states.CogState.{CogState}
use Rattle.p8_access.specs.declared.states.CogState.TheVariants.{Stopped, Starting, Running}
use Rattle.p8_ledger.specs.declared.fronts.Fronts.{Fronts}
use Rattle.p8_ledger.specs.Waiting.{test_in}

-- the least of the clocks of the eight cogs, with its cog: the lowest, where two have it
pub record IsFirstOf (clocks : List ℕ) (key : Key) : Type 0 where
  pub near : key.cog < 8
  pub there : key.clock ≡ slice_index clocks key.cog
  pub first : (n : ℕ) → n < 8 → Before (record { clock = slice_index clocks n; cog = n }) key → ⊥

-- the clock of the first turn of a cog that is starting, where that is below a limit
abbrev pub IsStartClock : (cog since until : ℕ) → Option ℕ → Type 0
IsStartClock cog since until None = until ≤ window_of cog (since + 1)
IsStartClock cog since until (Some clock) = (clock ≡ window_of cog (since + 1)) × (clock < until)

-- nothing comes below a limit
abbrev pub IsSilent : (limit front : ℕ) → Option Test → Type 0
IsSilent limit front test = (limit ≤ front) × (test ≡ None)

-- the front of a running cog by what it has said last, and what it waits for: where it waits, it may come at its
-- front or later
abbrev pub IsSaidFront : (limit : ℕ) → Next → (front : ℕ) → Option Test → Type 0
IsSaidFront limit (At earliest access) front test = (front ≡ earliest) × (test ≡ test_in access)
IsSaidFront limit Quiet front test = IsSilent limit front test
IsSaidFront limit (More bound) front test = (front ≡ bound) × (test ≡ None)

-- the front of a cog by its state
abbrev pub IsFront : (n limit : ℕ) → CogState → Next → (front : ℕ) → Option Test → Type 0
IsFront n limit Stopped said front test = IsSilent limit front test
IsFront n limit (Starting since origin) said front test =
    (front < limit → front ≡ window_of n (since + 1)) × (window_of n (since + 1) < limit → front ≡ window_of n (since + 1)) × (test ≡ None)
IsFront n limit (Running origin) said front test = IsSaidFront limit said front test

-- the front of a cog is that of its state and of what it has said last
abbrev pub IsFrontIn : Fronts → (n limit : ℕ) → CogState → Next → Type 0
IsFrontIn fronts n limit state said =
    (test : Option Test) × IsFront n limit state said (slice_index fronts.clocks n) test
