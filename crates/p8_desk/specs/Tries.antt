-- What one try of a pass does. A record is found; where its cog owes a saying the pass adds one; the least front on
-- what it is then decides.
use Rattle.std.specs.Prelude.{ℕ, suc, ◌+◌, ◌*◌, ◌≡◌, ◌<◌, ◌≤◌, ◌⊎◌, ◌∷◌, Some, length}
use Rattle.p8_access.specs.declared.kinds.Origin.{Origin}
use Rattle.p8_access.specs.declared.order.Turn.{Turn}
use Rattle.p8_access.specs.declared.lives.Next.{Next}
use Rattle.p8_access.specs.declared.lives.Next.TheVariants.{At, Quiet, More}
use Rattle.p8_access.specs.Lives.{Begun, PasmBegun, SpinBegun}
use Rattle.p8_access.specs.declared.states.CogState.{CogState}
use Rattle.p8_access.specs.declared.states.CogState.TheVariants.{Stopped, Starting, Running}
use Rattle.p8_access.specs.Worlds.{World}
use Rattle.p8_access.specs.Hub.{cog_state}
use Rattle.p8_access.specs.Histories.{begun, Extends, Ended, Legal}
use Rattle.p8_cog.specs.Lives.{asks}
use Rattle.p8_ledger.specs.declared.ledger.Ledger.{Ledger}
use Rattle.p8_ledger.specs.declared.steps.Step.TheVariants.{Took, Said}
use Rattle.p8_ledger.specs.Records.{Record, turns, mine, said, Begins, IsTruthful, IsLeastFront, NoFront, Owes}
use Rattle.p8_ledger.specs.Ledgers.{Found}
use Rattle.p8_desk.specs.declared.turned.Turned.{Turned}
use Rattle.p8_desk.specs.declared.turned.Turned.TheVariants.{Done, Held, After, Ahead, Over}
use Rattle.p8_desk.specs.Passes.{PassSteps}

-- the fewest clocks of one instruction or bytecode, and how far a life comes at most in one call: a start of 8,192
-- clocks, 1,024 instructions of at most 8 clocks or bytecodes of at most 544, and 16 to a window
abbrev pub pace_of : Begun → ℕ
pace_of (PasmBegun loaded) = 4
pace_of (SpinBegun entered) = 32

abbrev pub most_of : Begun → ℕ
most_of (PasmBegun loaded) = 16400
most_of (SpinBegun entered) = 565264

-- a saying in place of the promise `old` goes no further than that, and a new promise rises by what the budget of
-- 1,024 takes at least
abbrev pub GoesOn : (pace most limit old : ℕ) → Next → Type 0
GoesOn pace most limit old (At clock access) = clock ≤ old + most
GoesOn pace most limit old Quiet = limit ≤ old + most
GoesOn pace most limit old (More bound) = (bound ≤ old + most) × (old + 1023 * pace ≤ bound)

-- a cog says this in place of its last promise
pub record Says (w : World) (r : Record) (n : ℕ) (next : Next) : Type 0 where
  pub owes : Owes w r n
  pub life : Begun
  pub began : begun w (turns r) n ≡ Some life
  pub goes_on : GoesOn (pace_of life) (most_of life) w.clocks (owes.promise.0) next

-- one saying is added, exactly where the cog owes one
abbrev pub Speaks : World → ℕ → Next → Record → Record → Type 0
Speaks w n next r s = ((s ≡ Said n next ∷ r) × Says w r n next) ⊎ ((s ≡ r) × (Owes w r n → ⊥))

-- a turn of a cog that was starting, or of the access that a running cog has said last
abbrev pub IsSaid : CogState → Next → Turn → Type 0
IsSaid Stopped next turn = ⊥
IsSaid (Starting since origin) next turn = Unit {0}
IsSaid (Running origin) next turn = (earliest : ℕ) × (next ≡ At earliest turn.access)

-- what the try answers, and what it means
abbrev pub Answers : World → Record → ℕ → Turned → Type 0
Answers w s n (Done turn) =
    Extends asks w (turns s) turn × (turn.key.cog ≡ n) × IsLeastFront w s turn.key
    × IsSaid (cog_state w (turns s) n) (said n s) turn
Answers w s n (Ahead bound) =
    (length (turns s) < w.turns) × IsLeastFront w s (record { clock = bound; cog = n })
    × ((origin : Origin) × (cog_state w (turns s) n ≡ Running origin)) × (said n s ≡ More bound)
Answers w s n (After other bound) =
    (length (turns s) < w.turns) × IsLeastFront w s (record { clock = bound; cog = other }) × (other ≡ n → ⊥)
Answers w s n Over = ((length (turns s) ≡ w.turns) ⊎ NoFront w s) × Ended asks w (turns s)
Answers w s n (Held by) = ⊥

-- the record afterwards
abbrev pub seen_by : Turned → Record → Record
seen_by (Done turn) s = Took turn ∷ s
seen_by Over s = s
seen_by (After other bound) s = s
seen_by (Ahead bound) s = s
seen_by (Held by) s = s

-- the record that was found, what was said, and the answer
pub record Got (w : World) (n : ℕ) (before after : PassSteps) (answer : Turned) : Type 0 where
  -- what the pass had seen is a beginning of the record, which has just its own steps of its cog
  pub r : Record
  pub began : Begins before.seen r
  pub own : mine n r ≡ before.own
  pub legal : Legal asks w (turns r)
  pub value : (ledger : Ledger) × Found w ledger r
  -- the record with what the cog has said
  pub next : Next
  pub s : Record
  pub speaks : Speaks w n next r s
  pub truthful : IsTruthful w s
  pub answers : Answers w s n answer
  -- the try took the desk; the pass has seen all of that, and the turn that was made
  pub won : after.won ≡ suc before.won
  pub seen : after.seen ≡ seen_by answer s
  pub mine : after.own ≡ mine n after.seen
  pub found : after.found ≡ before.found

-- Held tells whose pass had the desk: nothing else changes; every other answer took it, and comes with a record
abbrev pub Tried : World → ℕ → PassSteps → PassSteps → Turned → Type 0
Tried w n before after (Held by) = (after ≡ record before { found = by ∷ before.found }) × (by ≡ n → ⊥) × (by < 8)
Tried w n before after (Done turn) = Got w n before after (Done turn)
Tried w n before after (After other bound) = Got w n before after (After other bound)
Tried w n before after (Ahead bound) = Got w n before after (Ahead bound)
Tried w n before after Over = Got w n before after Over

-- a pass after tries that made no turn: its own steps and the record that it has seen have gone on, with no turn of its own, and
-- so has the number of tries that took the desk
pub record Waited (before after : PassSteps) : Type 0 where
  pub own : Begins before.own after.own
  pub seen : Begins before.seen after.seen
  pub turns_kept : turns after.own ≡ turns before.own
  pub won : before.won ≤ after.won
