-- The value of a record's end, and what a cog that asks for its turn is told.
use Rattle.std.specs.Prelude.{ℕ, ◌≡◌, ◌<◌, ◌≤◌, ◌^◌, ◌⊎◌, true, ◌∷◌, Some, length, reverse, slice_get}
use Rattle.p8_access.specs.declared.kinds.Origin.{Origin}
use Rattle.p8_access.specs.declared.lives.Next.TheVariants.{More}
use Rattle.p8_access.specs.Proper.{IsProperOrigin, Fits}
use Rattle.p8_access.specs.Lives.{announced_by, IsAnnounced}
use Rattle.p8_access.specs.declared.states.CogState.TheVariants.{Stopped, Running}
use Rattle.p8_access.specs.Worlds.{World}
use Rattle.p8_access.specs.Hub.{cog_state, origin_of}
use Rattle.p8_access.specs.Histories.{Extends, Legal}
use Rattle.p8_hub.specs.Standing.{IsHub}
use Rattle.p8_cog.specs.Lives.{asks}
use Rattle.p8_ledger.specs.Worlds.{world_of}
use Rattle.p8_ledger.specs.Standing.{FitsState}
use Rattle.p8_ledger.specs.Fronts.{IsFrontIn}
use Rattle.p8_ledger.specs.declared.ledger.Ledger.{Ledger}
use Rattle.p8_ledger.specs.declared.ledger.Taken.{Taken}
use Rattle.p8_ledger.specs.declared.ledger.Taken.TheVariants.{Done, Ahead, After, Over}
use Rattle.p8_ledger.specs.declared.ledger.First.{First}
use Rattle.p8_ledger.specs.declared.ledger.First.TheVariants as first
use Rattle.p8_ledger.specs.declared.steps.Step.TheVariants.{Took}
use Rattle.p8_ledger.specs.Records.{Record, turns, said, IsTruthful, IsLeastFront, NoFront}

-- a ledger stands for a record: it has the turns, the hub after them and what each cog has said last; each
-- cog that runs has said the truth
pub record Found (w : World) (ledger : Ledger) (r : Record) : Type 0 where
  pub world : world_of ledger.boot w.script ledger.limits ≡ w
  pub log : reverse ledger.turns.list ≡ turns r
  pub hub : IsHub w (turns r) ledger.hub
  pub sayings : (n : ℕ) → n < 8 → slice_get ledger.sayings n ≡ Some (said n r)
  pub truth : IsTruthful w r
  pub legal : Legal asks w (turns r)
  -- origins are well formed, and there are eight cogs
  pub origins : (n : ℕ) → IsProperOrigin (origin_of (cog_state w (turns r) n))
  pub others : (n : ℕ) → 8 ≤ n → cog_state w (turns r) n ≡ Stopped
  -- each cog's front is kept
  pub fronts : (n : ℕ) → n < 8 → IsFrontIn ledger.fronts n w.clocks (cog_state w (turns r) n) (said n r)

-- what a cog is told that asks for its turn: the least front decides whose it is, where there is one and room
-- for a turn
abbrev pub Decides : World → Record → ℕ → Taken → Type 0
Decides w r n (Done turn running) =
    Extends asks w (turns r) turn × (turn.key.cog ≡ n) × IsLeastFront w r turn.key
    × FitsState running (cog_state w (turns r) n) × (running ≡ true → IsAnnounced (announced_by (said n r)) turn)
Decides w r n (Ahead bound) =
    (length (turns r) < w.turns) × IsLeastFront w r (record { clock = bound; cog = n })
    × ((origin : Origin) × (cog_state w (turns r) n ≡ Running origin)) × (said n r ≡ More bound)
Decides w r n (After other bound) =
    (length (turns r) < w.turns) × IsLeastFront w r (record { clock = bound; cog = other }) × (other ≡ n → ⊥)
Decides w r n Over = (length (turns r) ≡ w.turns) ⊎ NoFront w r

-- the record afterwards
abbrev pub taken_by : Taken → Record → Record
taken_by (Done turn running) r = Took turn ∷ r
taken_by (Ahead bound) r = r
taken_by (After other bound) r = r
taken_by Over r = r

-- a turn that was made is one that a life can take
abbrev pub CanBeTaken : Taken → Type 0
CanBeTaken (Done turn running) = Fits turn.access turn.answer × (turn.key.clock < 2 ^ 61)
CanBeTaken (Ahead bound) = Unit {0}
CanBeTaken (After other bound) = Unit {0}
CanBeTaken Over = Unit {0}

-- what comes first of all cogs, where there is a front and room for a turn
abbrev pub DecidesFirst : World → Record → First → Type 0
DecidesFirst w r (first.Done turn running) =
    Extends asks w (turns r) turn × IsLeastFront w r turn.key
    × FitsState running (cog_state w (turns r) turn.key.cog) × (running ≡ true → IsAnnounced (announced_by (said turn.key.cog r)) turn)
DecidesFirst w r (first.Ahead n bound) =
    (length (turns r) < w.turns) × IsLeastFront w r (record { clock = bound; cog = n })
    × ((origin : Origin) × (cog_state w (turns r) n ≡ Running origin)) × (said n r ≡ More bound)
DecidesFirst w r first.Over = (length (turns r) ≡ w.turns) ⊎ NoFront w r

abbrev pub after_first : First → Record → Record
after_first (first.Done turn running) r = Took turn ∷ r
after_first (first.Ahead n bound) r = r
after_first first.Over r = r
