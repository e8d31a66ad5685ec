-- What the calls of a ledger do to it, whether or not it stands for a record.
use Rattle.std.specs.Prelude.{ℕ, ◌+◌, ◌≡◌, ◌<◌, ◌^◌, true, Bool, [], ◌∷◌, ◌++◌, Some, length, slice_get, slice_set}
use Rattle.p8_access.specs.declared.lives.Next.{Next}
use Rattle.p8_access.specs.declared.lives.Next.TheVariants.{More}
use Rattle.p8_access.specs.declared.order.Turn.{Turn}
use Rattle.p8_access.specs.Lives.{announced_by, IsAnnounced, IsMade}
use Rattle.p8_access.specs.Proper.{Fits}
use Rattle.p8_ledger.specs.declared.ledger.Ledger.{Ledger}
use Rattle.p8_ledger.specs.declared.ledger.First.{First}
use Rattle.p8_ledger.specs.declared.ledger.First.TheVariants.{Done, Ahead, Over}

-- a turn that a life can take was made and is the last; that of a running cog is of the access that it had said,
-- and its cog says nothing any more but that its next access comes later
pub record HasMade (old new : Ledger) (turn : Turn) (running : Bool) : Type 0 where
  pub cog : turn.key.cog < 8
  pub clock : turn.key.clock < 2 ^ 61
  pub fits : Fits turn.access turn.answer
  pub made : running ≡ true → IsMade turn.access
  pub announced : (said : Next) → running ≡ true → slice_get old.sayings turn.key.cog ≡ Some said → IsAnnounced (announced_by said) turn
  pub room : length old.turns.list < old.limits.turns
  pub log : new.turns.list ≡ old.turns.list ++ turn ∷ []
  pub sayings : new.sayings ≡ slice_set old.sayings turn.key.cog (More (turn.key.clock + 1))
  pub boot : new.boot ≡ old.boot
  pub limits : new.limits ≡ old.limits

abbrev pub Advances : Ledger → Ledger → First → Type 0
Advances old new (Done turn running) = HasMade old new turn running
Advances old new (Ahead n bound) = (n < 8) × (new ≡ old)
Advances old new Over = new ≡ old

-- a cog has said this
pub record HasSaid (old new : Ledger) (cog : ℕ) (next : Next) : Type 0 where
  pub sayings : new.sayings ≡ slice_set old.sayings cog next
  pub log : new.turns ≡ old.turns
  pub boot : new.boot ≡ old.boot
  pub limits : new.limits ≡ old.limits
