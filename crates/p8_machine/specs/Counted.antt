-- The counter of each turn of a history, and what the cogs ask after it.
use Rattle.std.specs.Prelude.{ℕ, ◌≡◌, List, [], ◌∷◌, Option, Some, None, length, slice_get}
use Rattle.p8_access.specs.declared.lives.Next.{Next}
use Rattle.p8_access.specs.declared.lives.Next.TheVariants.{At, Quiet, More}
use Rattle.p8_access.specs.declared.order.Turn.{Turn}
use Rattle.p8_access.specs.declared.states.CogState.{CogState}
use Rattle.p8_access.specs.declared.states.CogState.TheVariants.{Stopped, Starting, Running}
use Rattle.p8_access.specs.Lives.{Begun}
use Rattle.p8_access.specs.Worlds.{World}
use Rattle.p8_access.specs.Hub.{cog_state}
use Rattle.p8_access.specs.Histories.{begun, since_begin}
use Rattle.p8_cog.specs.Counters.{IsCounterOf}
use Rattle.p8_machine.specs.declared.asked.Asked.{Asked}
use Rattle.p8_machine.specs.Asked.{IsNextAsked}

-- a running cog asks its next access from the counter of its life, after the turns that this life has had; the turn with which
-- a life begins has no counter
abbrev pub IsCounterIn : World → (past : List Turn) → (n : ℕ) → CogState → Option ℕ → Type 0
IsCounterIn w past n Stopped counter = counter ≡ None
IsCounterIn w past n (Starting since origin) counter = counter ≡ None
IsCounterIn w past n (Running origin) counter =
    (life : Begun) × (begun w past n ≡ Some life) × IsCounterOf w.memory life (since_begin past n) counter

-- one for each turn of a past, the newest first, by the turns before it
abbrev pub AreCounters : World → (past : List Turn) → List (Option ℕ) → Type 0
AreCounters w [] [] = Unit {0}
AreCounters w [] (counter ∷ counters) = ⊥
AreCounters w (turn ∷ past) [] = ⊥
AreCounters w (turn ∷ past) (counter ∷ counters) =
    IsCounterIn w past turn.key.cog (cog_state w past turn.key.cog) counter × AreCounters w past counters

-- where a cog asks an access this is its counter, and else it has none
abbrev pub HasCounter : World → (past : List Turn) → (n : ℕ) → CogState → Next → Option ℕ → Type 0
HasCounter w past n state (At clock access) counter = IsCounterIn w past n state counter
HasCounter w past n state Quiet counter = counter ≡ None
HasCounter w past n state (More bound) counter = counter ≡ None

-- what a cog asks next after a past, with its counter
abbrev pub IsAskedBy : World → (past : List Turn) → (n : ℕ) → Asked → Type 0
IsAskedBy w past n asked =
    IsNextAsked w past n (cog_state w past n) asked.next × HasCounter w past n (cog_state w past n) asked.next asked.counter

-- for each of the eight cogs, in the order of their numbers
abbrev pub AreAsked : World → (past : List Turn) → List Asked → Type 0
AreAsked w past all = (length all ≡ 8) × ((n : ℕ) (asked : Asked) → slice_get all n ≡ Some asked → IsAskedBy w past n asked)
