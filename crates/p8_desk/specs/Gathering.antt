-- internal
-- The passes of all cogs in one seat.
use Rattle.std.specs.Prelude.{ℕ, ◌≡◌, ◌<◌, ◌≤◌, true, List, Option, Some, None, slice_get, zero, suc, ◌+◌, ◌-◌, ◌*◌, length}
use Rattle.atomic_table.specs.Seated.{TableId}
use Rattle.p8_access.specs.Worlds.{World}
use Rattle.p8_desk.specs.declared.rider.Rider.{Rider}
use Rattle.p8_desk.specs.declared.rule.Known.{Known}
use Rattle.p8_desk.specs.declared.turned.Turned.{Turned}
use Rattle.p8_desk.specs.Passes.{PassValue}
use Rattle.p8_desk.specs.Rules.{Hand, known}
use Rattle.p8_desk.specs.Seats.{Idle, Keeps, Seated, TookDesk, passed, steps_of, is_over}
use Rattle.p8_access.specs.declared.lives.Next.{Next}
use Rattle.p8_access.specs.declared.lives.Next.TheVariants.{At, Quiet, More}
use Rattle.p8_ledger.specs.Records.{Record, turns, said}
use Rattle.p8_desk.specs.declared.turned.Turned.TheVariants.{Done, Held, After, Ahead, Over}

-- a pass, as its seat and what it keeps besides
pub record PartsOf (pass : PassValue) (table : TableId) (me : Hand) (rider : Rider) : Type 0 where
  pub seated : Seated me rider
  pub whole : passed table me rider.cog rider.over ≡ pass

-- a seat has the pass of a cog, and what the pass keeps besides lies at its place
pub record RidesIn (w : World) (me : Hand) (riders : List (Option Rider)) (n : ℕ) : Type 0 where
  pub p : Known
  pub rider : Rider
  pub has : known me.0.passes n ≡ Some p
  pub there : slice_get riders n ≡ Some (Some rider)
  pub cog : rider.cog ≡ n
  pub keeps : Keeps w p rider

-- a seat that has the passes below a place, and no others
pub record Gathered (w : World) (places : List (Option PassValue)) (riders : List (Option Rider)) (k : ℕ) (me : Hand) : Type 0 where
  pub idle : Idle w me
  pub each : (n : ℕ) (pass : PassValue) → n < k → slice_get places n ≡ Some (Some pass) →
      (one : RidesIn w me riders n) × (steps_of one.p ≡ pass.steps) × (one.rider.over ≡ pass.over)
  pub none_from : (n : ℕ) → k ≤ n → known me.0.passes n ≡ None

-- a seat that has all of them
pub record Riding (w : World) (me : Hand) (riders : List (Option Rider)) : Type 0 where
  pub idle : Idle w me
  pub each : (n : ℕ) → n < 8 → RidesIn w me riders n

-- one try of a cog by such a seat
pub record HasRode (w : World) (n : ℕ) (before after : Hand) (riders : List (Option Rider)) (count : ℕ) (answer : Turned) : Type 0 where
  pub riding : Riding w after riders
  pub rider : Rider
  pub there : slice_get riders n ≡ Some (Some rider)
  pub took : TookDesk w n before after rider count answer
  pub over : is_over answer ≡ true → rider.over ≡ true

-- one of them is over
abbrev pub OneOver : List (Option Rider) → Type 0
OneOver riders = (n : ℕ) × (rider : Rider) × (n < 8) × (slice_get riders n ≡ Some (Some rider)) × (rider.over ≡ true)

-- the cog that an answer names, or else the same again
abbrev pub next_cog : ℕ → Turned → Option ℕ
next_cog n (After other bound) = Some other
next_cog n Over = None
next_cog n (Done turn) = Some n
next_cog n (Ahead bound) = Some n
next_cog n (Held by) = Some n

-- what a promise leaves open up to the limit
abbrev pub open_by : (limit : ℕ) → Next → ℕ
open_by limit (At clock access) = 0
open_by limit Quiet = 0
open_by limit (More bound) = 1 + (limit - bound)

-- the same of the promises of so many cogs
abbrev pub open_in : (limit : ℕ) → ℕ → Record → ℕ
open_in limit zero r = 0
open_in limit (suc k) r = open_in limit k r + open_by limit (said k r)

-- what is left of a run: each turn leaves as much open as a promise can
abbrev pub rest_of : World → Record → ℕ
rest_of w r = (w.turns - length (turns r)) * (w.clocks + 2) + open_in w.clocks 8 r

-- an answer that doesn't name the cog with the least front
abbrev pub names_none : Turned → ℕ
names_none (Done turn) = 1
names_none (Held by) = 1
names_none (After other bound) = 0
names_none (Ahead bound) = 0
names_none Over = 0

-- what is left once a cog has had an answer: a cog that is named either says something or makes a turn
abbrev pub left_to_do : World → Record → Turned → ℕ
left_to_do w r answer = 2 * rest_of w r + names_none answer
