-- How a machine's ledger and its lives stand for a record.
use Rattle.std.specs.Prelude.{ℕ, ◌≡◌, Bool, true, false, List, ◌∷◌, Option, Some, None, slice_get}
use Rattle.p8_access.specs.declared.order.Turn.{Turn}
use Rattle.p8_access.specs.declared.lives.Next.{Next}
use Rattle.p8_access.specs.Lives.{Begun}
use Rattle.p8_access.specs.Proper.{IsProperOrigin}
use Rattle.p8_access.specs.Worlds.{World}
use Rattle.p8_access.specs.Hub.{cog_state, origin_of}
use Rattle.p8_access.specs.Histories.{Extends}
use Rattle.p8_cog.specs.declared.cog_life.CogLife.{CogLife}
use Rattle.p8_cog.specs.Lives.{asks}
use Rattle.p8_cog.specs.WholeLives.{stands_for}
use Rattle.p8_ledger.specs.declared.ledger.Ledger.{Ledger}
use Rattle.p8_ledger.specs.declared.steps.Step.TheVariants.{Took}
use Rattle.p8_ledger.specs.Seats.{SitsIn}
use Rattle.p8_ledger.specs.Standing.{FitsState}
use Rattle.p8_ledger.specs.Records.{Record, turns, said}
use Rattle.p8_ledger.specs.Ledgers.{Found}
use Rattle.p8_machine.specs.Counted.{IsCounterIn}
use Rattle.p8_machine.specs.Places.{IsSpoken}

-- the life began with this and has had these turns, and its cog has said its next access, or that none comes
abbrev pub has_spoken : CogLife → Next → Begun → List Turn → Type 0
has_spoken life next began turns = stands_for life began turns × IsSpoken next

-- each life is that of its cog, and what its cog has said last is true of it
abbrev pub AreSeated : World → Record → List CogLife → Type 0
AreSeated w r lives =
    (n : ℕ) (life : CogLife) → slice_get lives n ≡ Some life → SitsIn asks (has_spoken life (said n r)) (said n r) w (turns r) n (cog_state w (turns r) n)

pub record Stands (w : World) (r : Record) (ledger : Ledger) (lives : List CogLife) : Type 0 where
  pub found : Found w ledger r
  pub seated : AreSeated w r lives

-- the ledger has made the turn that comes next, which no life has had yet
pub record Comes (w : World) (r : Record) (ledger : Ledger) (lives : List CogLife) (turn : Turn) (running : Bool) : Type 0 where
  pub found : Found w ledger (Took turn ∷ r)
  pub seated : AreSeated w r lives
  pub extends : Extends asks w (turns r) turn
  pub fits : FitsState running (cog_state w (turns r) turn.key.cog)
  pub origins : (n : ℕ) → IsProperOrigin (origin_of (cog_state w (turns r) n))

-- a past with one turn more, if there is one
abbrev pub past_with : List Turn → Option Turn → List Turn
past_with past None = past
past_with past (Some turn) = turn ∷ past

-- a past has gone on by the turn that comes next, which has this counter, if by any
abbrev pub HasCounted : World → (old new : List Turn) → Option (Option ℕ) → Type 0
HasCounted w old new None = new ≡ old
HasCounted w old new (Some counter) =
    (turn : Turn) × (new ≡ turn ∷ old) × Extends asks w old turn × IsCounterIn w old turn.key.cog (cog_state w old turn.key.cog) counter

-- whether a past has gone on by one turn
abbrev pub HasAdvanced : Bool → (old new : List Turn) → Type 0
HasAdvanced true old new = (turn : Turn) × (new ≡ turn ∷ old)
HasAdvanced false old new = new ≡ old
