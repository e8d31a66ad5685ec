-- internal
-- What a pass keeps of its cog's life, and of what that has found.
use Rattle.std.specs.Prelude.{ℕ, ◌+◌, ◌*◌, ◌≡◌, ◌≤◌, true, false, Bool, List, ◌∷◌, Option, None}
use Rattle.p8_access.specs.declared.kinds.Access.{Access}
use Rattle.p8_access.specs.declared.order.Turn.{Turn}
use Rattle.p8_access.specs.declared.lives.Next.{Next}
use Rattle.p8_access.specs.declared.lives.Next.TheVariants.{At, Quiet, More}
use Rattle.p8_access.specs.Lives.{Begun, Tells, announced_by, IsMadeNext, IsAnnounced}
use Rattle.p8_access.specs.Proper.{IsProperOrigin}
use Rattle.p8_cog.specs.Standing.{clock_of}
use Rattle.p8_access.specs.declared.states.CogState.{CogState}
use Rattle.p8_access.specs.Worlds.{World}
use Rattle.p8_access.specs.Hub.{cog_state, origin_of}
use Rattle.p8_access.specs.Histories.{Extends}
use Rattle.p8_cog.specs.declared.cog_life.CogLife.{CogLife}
use Rattle.p8_cog.specs.Kinds.{number_of}
use Rattle.p8_cog.specs.Lives.{asks}
use Rattle.p8_cog.specs.WholeLives as Life
use Rattle.p8_ledger.specs.Seats.{SitsIn}
use Rattle.p8_ledger.specs.Standing.{FitsState}
use Rattle.p8_ledger.specs.Records.{Record, turns, said}
use Rattle.p8_desk.specs.declared.runner.Runner.{Runner}
use Rattle.p8_desk.specs.Tries.{GoesOn}

-- the clock that a life has come to
abbrev pub reached_in : CogLife → ℕ
reached_in life = number_of life.kind (clock_of life.pasm.state) life.spin.reached

-- the fewest clocks that one instruction or bytecode takes, and the most of one that asks nothing
abbrev pub pace_in : CogLife → ℕ
pace_in life = number_of life.kind 4 32

abbrev pub stride_in : CogLife → ℕ
stride_in life = number_of life.kind 8 544

-- how far a life may have come in one call, from a promise on: a start, so many instructions or bytecodes, and
-- the way to a window
abbrev pub most_in : CogLife → ℕ
most_in life = 8192 + 1024 * stride_in life + 16

-- what is said goes on from the last promise
abbrev pub GoesOnFrom : (pace most limit : ℕ) → Next → Next → Type 0
GoesOnFrom pace most limit (At clock access) next = ⊥
GoesOnFrom pace most limit Quiet next = ⊥
GoesOnFrom pace most limit (More old) next = GoesOn pace most limit old next

-- a life that has made a promise has come about as far
abbrev pub IsNear : ℕ → Next → Type 0
IsNear reached (At clock access) = Unit {0}
IsNear reached Quiet = Unit {0}
IsNear reached (More bound) = (bound ≤ reached + 1) × (reached ≤ bound + 8192)

-- the life of a running cog: it stands for what it began with and its turns; what it has found is true, and goes
-- on from what the cog has said last
pub record Lives (limit : ℕ) (runner : Runner) (last : Next) (b : Begun) (ts : List Turn) : Type 0 where
  pub stood : Life.stands_for runner.life b ts
  pub told : Tells (asks b ts) limit runner.next
  pub announced : Life.announced_in runner.life ≡ announced_by runner.next
  pub near : IsNear (reached_in runner.life) runner.next
  pub goes_on : runner.said ≡ false → GoesOnFrom (pace_in runner.life) (most_in runner.life) limit last runner.next

-- a runner is that of a cog after a record
pub record Rides (w : World) (n : ℕ) (r : Record) (runner : Runner) : Type 0 where
  pub cog : Life.cog_of runner.life ≡ n
  pub made : IsMadeNext runner.next
  pub said_last : runner.said ≡ true → said n r ≡ runner.next
  pub owed : runner.said ≡ false → (old : ℕ) × (said n r ≡ More old)
  pub sits : SitsIn asks (Lives w.clocks runner (said n r)) runner.next w (turns r) n (cog_state w (turns r) n)

-- what a life has found that isn't a promise
abbrev pub IsAsking : Next → Type 0
IsAsking (At clock access) = Unit {0}
IsAsking Quiet = Unit {0}
IsAsking (More bound) = ⊥

-- the life has run as far as it may: a promise that it has made isn't said yet
abbrev pub HasFound : Runner → Type 0
HasFound runner = runner.said ≡ true → IsAsking runner.next

-- how many instructions or bytecodes a life has done
abbrev pub place_in : CogLife → ℕ
place_in life = number_of life.kind life.pasm.done life.spin.done

-- a turn that its cog's runner is to take
pub record Comes (w : World) (r : Record) (runner : Runner) (boot_memory : List ℕ) (after : CogState) (turn : Turn) (running : Bool) : Type 0 where
  pub memory : boot_memory ≡ w.memory
  pub state : after ≡ cog_state w (turn ∷ turns r) turn.key.cog
  pub fits_state : FitsState running (cog_state w (turns r) turn.key.cog)
  pub extends : Extends asks w (turns r) turn
  pub origins : (n : ℕ) → IsProperOrigin (origin_of (cog_state w (turns r) n))
  pub announced : running ≡ true → IsAnnounced (announced_by (said turn.key.cog r)) turn
  pub rides : Rides w turn.key.cog r runner

-- it has announced nothing yet, and has come to the turn's clock and not much further
pub record HasTaken (announced : Option (ℕ × Access)) (reached lead : ℕ) (turn : Turn) : Type 0 where
  pub none : announced ≡ None
  pub low : turn.key.clock ≤ reached
  pub high : reached ≤ turn.key.clock + lead
