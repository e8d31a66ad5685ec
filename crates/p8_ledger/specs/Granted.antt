-- internal
-- What stands at the least front: a turn, which is made, or a promise.
use Rattle.std.specs.Prelude.{◌≡◌, true, ◌∷◌, Option, Some, None}
use Rattle.p8_access.specs.declared.kinds.Origin.{Origin}
use Rattle.p8_access.specs.declared.lives.Next.TheVariants.{More}
use Rattle.p8_access.specs.declared.order.Key.{Key}
use Rattle.p8_access.specs.Lives.{announced_by, IsAnnounced}
use Rattle.p8_access.specs.declared.states.CogState.TheVariants.{Running}
use Rattle.p8_access.specs.Worlds.{World}
use Rattle.p8_access.specs.Hub.{cog_state}
use Rattle.p8_access.specs.Histories.{Extends}
use Rattle.p8_cog.specs.Lives.{asks}
use Rattle.p8_ledger.specs.Standing.{FitsState}
use Rattle.p8_ledger.specs.declared.ledger.Made.{Made}
use Rattle.p8_ledger.specs.declared.steps.Step.TheVariants.{Took}
use Rattle.p8_ledger.specs.Records.{Record, turns, said}

abbrev pub IsGranted : World → Record → Key → Option Made → Type 0
IsGranted w r key None = ((origin : Origin) × (cog_state w (turns r) key.cog ≡ Running origin)) × (said key.cog r ≡ More key.clock)
IsGranted w r key (Some made) =
    Extends asks w (turns r) made.turn × (made.turn.key ≡ key) × FitsState made.running (cog_state w (turns r) key.cog)
    × (made.running ≡ true → IsAnnounced (announced_by (said key.cog r)) made.turn)

abbrev pub granted_by : Option Made → Record → Record
granted_by None r = r
granted_by (Some made) r = Took made.turn ∷ r
