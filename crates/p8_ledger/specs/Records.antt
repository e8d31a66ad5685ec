-- Records of turns and sayings, and where the next turn may come from.
--
-- A record is a list of steps, the newest first: each is a turn, or what a cog has said of its next access
-- (At an access with its earliest clock, More with a bound before which none comes, Quiet where none comes
-- below the limit). Only a cog that has run by itself knows such a thing; all else is told by the turns.
use Rattle.std.specs.Prelude.{ℕ, ◌+◌, ◌==◌, ◌≡◌, ◌<◌, if◌then◌else◌, List, [], ◌∷◌, ◌++◌, length}
use Rattle.p8_access.specs.declared.kinds.Access.{Access}
use Rattle.p8_access.specs.declared.kinds.Origin.{Origin}
use Rattle.p8_access.specs.declared.order.Key.{Key}
use Rattle.p8_access.specs.declared.order.Turn.{Turn}
use Rattle.p8_access.specs.declared.lives.Next.{Next}
use Rattle.p8_access.specs.declared.lives.Next.TheVariants.{At, Quiet, More}
use Rattle.p8_access.specs.Lives.{Begun}
use Rattle.p8_access.specs.Windows.{Before}
use Rattle.p8_access.specs.declared.states.CogState.{CogState}
use Rattle.p8_access.specs.declared.states.CogState.TheVariants.{Stopped, Starting, Running}
use Rattle.p8_access.specs.Worlds.{World}
use Rattle.p8_access.specs.Hub.{cog_state}
use Rattle.p8_access.specs.Histories.{IsNext}
use Rattle.p8_cog.specs.Lives.{asks}
use Rattle.p8_ledger.specs.Seats.{SitsIn}
use Rattle.p8_ledger.specs.declared.steps.Step.{Step}
use Rattle.p8_ledger.specs.declared.steps.Step.TheVariants.{Took, Said}

abbrev pub Record : Type 0
Record = List Step

-- the cog that made a step
abbrev pub cog_of : Step → ℕ
cog_of (Took turn) = turn.key.cog
cog_of (Said cog next) = cog

-- the turns of a record: the machine's history
abbrev pub with_turn : Step → List Turn → List Turn
with_turn (Took turn) past = turn ∷ past
with_turn (Said cog next) past = past

abbrev pub turns : Record → List Turn
turns [] = []
turns (step ∷ r) = with_turn step (turns r)

-- a cog's own steps
abbrev pub mine : ℕ → Record → Record
mine n [] = []
mine n (step ∷ r) = if cog_of step == n then step ∷ mine n r else mine n r

-- what a cog has said last: after a turn of its own nothing comes of it at that clock any more
abbrev pub says : Step → Next
says (Took turn) = More (turn.key.clock + 1)
says (Said cog next) = next

abbrev pub said : ℕ → Record → Next
said n [] = More 0
said n (step ∷ r) = if cog_of step == n then says step else said n r

-- the second record goes on from the first
abbrev pub Begins : Record → Record → Type 0
Begins early late = (more : Record) × (more ++ early ≡ late)

-- what is said is true of the life that runs in a cog after a past; it needn't be of a cog that doesn't run
abbrev pub whatever : Begun → List Turn → Type 0
whatever life turns = Unit {0}

abbrev pub IsTrueOf : World → List Turn → ℕ → Next → Type 0
IsTrueOf w past n next = SitsIn asks whatever next w past n (cog_state w past n)

-- each cog that runs has said the truth
abbrev pub IsTruthful : World → Record → Type 0
IsTruthful w r = (n : ℕ) → IsTrueOf w (turns r) n (said n r)

-- A cog's front is the clock of its next turn, or the bound that it has promised, where that is below the limit.
-- What it has said counts only while it runs.
abbrev pub HasFrontBy : World → List Turn → ℕ → Next → ℕ → Type 0
HasFrontBy w past n (At earliest access) clock = (next : Access) × IsNext asks w past n clock next
HasFrontBy w past n Quiet clock = ⊥
HasFrontBy w past n (More bound) clock = (clock ≡ bound) × (bound < w.clocks)

abbrev pub HasFrontIn : World → List Turn → ℕ → CogState → Next → ℕ → Type 0
HasFrontIn w past n Stopped next clock = ⊥
HasFrontIn w past n (Starting since origin) next clock = (access : Access) × IsNext asks w past n clock access
HasFrontIn w past n (Running origin) next clock = HasFrontBy w past n next clock

abbrev pub HasFront : World → Record → ℕ → ℕ → Type 0
HasFront w r n clock = HasFrontIn w (turns r) n (cog_state w (turns r) n) (said n r) clock

-- a front, as a key, and no cog's front comes before it
pub record IsLeastFront (w : World) (r : Record) (key : Key) : Type 0 where
  pub there : HasFront w r key.cog key.clock
  pub least : (n clock : ℕ) → HasFront w r n clock → Before (record { clock = clock; cog = n }) key → ⊥

-- no cog has a front
abbrev pub NoFront : World → Record → Type 0
NoFront w r = (n clock : ℕ) → HasFront w r n clock → ⊥

-- a cog owes a saying: there is room for a turn, it runs, and its last word is a promise
pub record Owes (w : World) (r : Record) (n : ℕ) : Type 0 where
  pub room : length (turns r) < w.turns
  pub runs : (origin : Origin) × (cog_state w (turns r) n ≡ Running origin)
  pub promise : (bound : ℕ) × (said n r ≡ More bound)
