-- internal
-- The seat of a pass, what its parts have to do with what it knows, and what one try makes of that.
use Rattle.std.specs.Prelude.{ℕ, suc, ◌≡◌, ◌≤◌, ◌∷◌, Bool, true, false, Option, Some, None, length, ◌<◌, []}
use Rattle.p8_access.specs.declared.lives.Next.{Next}
use Rattle.p8_access.specs.Worlds.{World}
use Rattle.p8_access.specs.Histories.{Ended}
use Rattle.p8_cog.specs.Lives.{asks}
use Rattle.p8_ledger.specs.declared.ledger.Ledger.{Ledger}
use Rattle.p8_ledger.specs.declared.ledger.Taken.{Taken}
use Rattle.p8_ledger.specs.declared.steps.Step.TheVariants.{Said}
use Rattle.p8_ledger.specs.Records.{Record, turns, mine, IsTruthful}
use Rattle.p8_ledger.specs.Ledgers.{Found, Decides, taken_by}
use Rattle.p8_desk.specs.declared.rider.Rider.{Rider}
use Rattle.p8_desk.specs.declared.runner.Runner.{Runner}
use Rattle.p8_desk.specs.declared.rider.Outcome.{Outcome}
use Rattle.p8_desk.specs.declared.turned.Turned.{Turned}
use Rattle.p8_desk.specs.declared.turned.Turned.TheVariants.{Done, Held, After, Ahead, Over}
use Rattle.p8_desk.specs.Runners.{Rides}
use Rattle.p8_desk.specs.Tries.{Speaks, Answers, seen_by}
use Rattle.atomic_table.specs.Seated.{TableId}
use Rattle.p8_desk.specs.declared.rule.Known.{Known}
use Rattle.p8_desk.specs.Passes.{PassSteps, PassValue}
use Rattle.p8_desk.specs.Rules.{Hand, known, new_pass, world_in, Agrees, IsOfCogs, losing, releasing, seeing, seizing}

-- the record, once a cog has said this, if anything
abbrev pub said_by : ℕ → Option Next → Record → Record
said_by n None r = r
said_by n (Some next) r = Said n next ∷ r

-- and once it has had its answer
abbrev pub worked_by : ℕ → Outcome → Record → Record
worked_by n outcome r = seen_by outcome.answer (said_by n outcome.said r)

-- the cog has said what it owes
pub record Spoken (w : World) (n : ℕ) (next : Next) (r : Record) (said : Option Next) (ledger : Ledger) (runner : Runner) : Type 0 where
  pub speaks : Speaks w n next r (said_by n said r)
  pub stands : Found w ledger (said_by n said r)
  pub rides : Rides w n (said_by n said r) runner

-- the ledger has decided what the cog gets, and made the turn where it is the cog's
abbrev pub Granted : World → ℕ → Record → Taken → Ledger → Type 0
Granted w n s taken ledger =
    Found w ledger (taken_by taken s) × Decides w s n taken × ((before : Ledger) × Found w before s)

-- what the cog gets after that, and its life
pub record Settled (w : World) (n : ℕ) (s : Record) (ledger : Ledger) (runner : Runner) (answer : Turned) : Type 0 where
  pub answers : Answers w s n answer
  pub stands : Found w ledger (seen_by answer s)
  pub rides : Rides w n (seen_by answer s) runner

-- what an answer adds to a pass
abbrev pub is_over : Turned → Bool
is_over Over = true
is_over (Done turn) = false
is_over (Held by) = false
is_over (After other bound) = false
is_over (Ahead bound) = false

abbrev pub made_by : Turned → ℕ → ℕ
made_by (Done turn) made = suc made
made_by Over made = made
made_by (Held by) made = made
made_by (After other bound) made = made
made_by (Ahead bound) made = made

-- what a pass keeps of its cog's life and turns, after a record
pub record Carries (w : World) (r : Record) (rider : Rider) : Type 0 where
  pub rides : Rides w rider.cog r rider.runner
  pub made : rider.made ≡ length (turns (mine rider.cog r))
  pub few : rider.made ≤ w.turns
  pub ended : rider.over ≡ true → Ended asks w (turns r)

-- all that is done with the ledger
pub record Worked (w : World) (n : ℕ) (next : Next) (r : Record) (outcome : Outcome) (ledger : Ledger) (rider : Rider) : Type 0 where
  pub speaks : Speaks w n next r (said_by n outcome.said r)
  pub truthful : IsTruthful w (said_by n outcome.said r)
  pub answers : Answers w (said_by n outcome.said r) n outcome.answer
  pub stands : Found w ledger (worked_by n outcome r)
  pub carries : Carries w (worked_by n outcome r) rider
  pub count : outcome.count ≡ length (turns (worked_by n outcome r))

-- what is told of a pass
abbrev pub steps_of : Known → PassSteps
steps_of p = record { own = p.own; seen = p.seen; won = p.won; found = p.found }

abbrev pub or_new : ℕ → Option Known → Known
or_new n None = new_pass n
or_new n (Some p) = p

-- what a seat knows of a cog's pass
abbrev pub pass_in : Hand → ℕ → Known
pass_in me cog = or_new cog (known me.0.passes cog)

-- a pass, by its seat
abbrev pub passed : TableId → Hand → ℕ → Bool → PassValue
passed table me cog over =
    record { world = world_in me.0.start; table = table; cog = cog; steps = steps_of (pass_in me cog); over = over }

-- a seat that holds nothing
pub record Idle (w : World) (me : Hand) : Type 0 where
  pub live : me.0.live ≡ true
  pub free : me.0.holds ≡ None
  pub empty : me.1 ≡ []
  pub world : world_in me.0.start ≡ w

-- what a pass keeps besides its seat, by what is known of it
pub record Keeps (w : World) (p : Known) (rider : Rider) : Type 0 where
  pub own : p.own ≡ mine rider.cog p.seen
  pub carries : Carries w p.seen rider

-- a pass at a seat of its own
pub record Seated (me : Hand) (rider : Rider) : Type 0 where
  pub idle : Idle (world_in me.0.start) me
  pub near : rider.cog < 8
  pub has : known me.0.passes rider.cog ≡ Some (pass_in me rider.cog)
  pub alone : (n : ℕ) → (n ≡ rider.cog → ⊥) → known me.0.passes n ≡ None
  pub keeps : Keeps (world_in me.0.start) (pass_in me rider.cog) rider

-- the record that a cog's pass has seen, once it has gone on by what came of one try
abbrev pub worked_in : Hand → ℕ → Outcome → Record
worked_in me cog outcome = worked_by cog outcome (pass_in me cog).seen

-- a try that found the pass of another cog, which is at another seat
pub record FoundHeld (n by : ℕ) (me after : Hand) : Type 0 where
  pub apart : by ≡ n → ⊥
  pub near : by < 8
  pub elsewhere : (p : Known) → known me.0.passes by ≡ Some p → ⊥
  pub hand : after ≡ (losing me.0 n by, me.1)

-- a try that took the desk, by a seat that has the cog's pass among others: the record that it found, with which they all agree, what
-- it made of that, and that they all have seen it
pub record TookDesk (w : World) (n : ℕ) (me after : Hand) (rider : Rider) (count : ℕ) (answer : Turned) : Type 0 where
  pub r : Record
  pub before : Ledger
  pub found : Found w before r
  pub newest : IsOfCogs r
  pub agrees : (m : ℕ) (p : Known) → known me.0.passes m ≡ Some p → Agrees r m p
  pub next : Next
  pub s : Record
  pub speaks : Speaks w n next r s
  pub truthful : IsTruthful w s
  pub answers : Answers w s n answer
  pub left : Ledger
  pub stands : Found w left (seen_by answer s)
  pub carries : Carries w (seen_by answer s) rider
  pub counted : count ≡ length (turns (seen_by answer s))
  pub hand : after ≡ (releasing (seeing (seizing me.0 n r) (seen_by answer s)), [])

abbrev pub Rode : World → ℕ → Known → (me after : Hand) → Rider → (known_before known_after : ℕ) → Turned → Type 0
Rode w n p me after rider k count (Held by) = FoundHeld n by me after × Carries w p.seen rider × (count ≡ k)
Rode w n p me after rider k count (Done turn) = TookDesk w n me after rider count (Done turn)
Rode w n p me after rider k count (After other bound) = TookDesk w n me after rider count (After other bound)
Rode w n p me after rider k count (Ahead bound) = TookDesk w n me after rider count (Ahead bound)
Rode w n p me after rider k count Over = TookDesk w n me after rider count Over
