-- internal
-- A walk along a history, and what it has come to at a clock. A past is a list of turns, the newest first.
use Rattle.std.specs.Prelude.{ℕ, ◌≡◌, ◌<◌, ◌≤◌, nat_le, if◌then◌else◌, List, [], ◌∷◌, ◌++◌, reverse}
use Rattle.p8_access.specs.declared.order.Turn.{Turn}
use Rattle.p8_access.specs.Worlds.{World, Line, level_at}
use Rattle.p8_access.specs.Histories.{Rises}
use Rattle.p8_pins.specs.Matches.{IsBefore}
use Rattle.p8_pins.specs.Levels.{by, end_of}
use Rattle.p8_wave.specs.declared.courses.Course.{Course}
use Rattle.p8_wave.specs.declared.snapshot.Snapshot.{Snapshot}
use Rattle.p8_wave.specs.declared.signals.Signals.{Signals}
use Rattle.p8_wave.specs.declared.variables.Variable.{Variable}
use Rattle.p8_wave.specs.Variables.{IsVariable}
use Rattle.p8_wave.specs.Values.{value_at}
use Rattle.p8_wave.specs.Scale.{frequency, period_of, ticks_in}
use Rattle.p8_wave.specs.Following.{AreSignals, snapshot_value}

-- the past when the turns up to a clock have been taken, the oldest first
abbrev pub taken_by : ℕ → List Turn → List Turn → List Turn
taken_by clock [] past = past
taken_by clock (turn ∷ turns) past = if nat_le turn.key.clock clock then taken_by clock turns (turn ∷ past) else past

-- the turns that are left then
abbrev pub left_by : ℕ → List Turn → List Turn
left_by clock [] = []
left_by clock (turn ∷ turns) = if nat_le turn.key.clock clock then left_by clock turns else turn ∷ turns

-- some of these turns have been taken, and what is left would be taken next
pub record IsTaking (w : World) (clock : ℕ) (turns past left : List Turn) (s : Signals) : Type 0 where
  pub done : List Turn
  pub signals : AreSignals w done s
  pub rest : taken_by clock left done ≡ taken_by clock turns past

-- the first of some turns comes later than a clock
abbrev pub IsLater : ℕ → List Turn → Type 0
IsLater clock [] = Unit {0}
IsLater clock (turn ∷ turns) = clock < turn.key.clock

-- a walk is at a clock of a history, with these turns left
pub record IsAt (w : World) (past : List Turn) (clock : ℕ) (left : List Turn) (course : Course) : Type 0 where
  pub split : past ≡ reverse left ++ by past clock
  pub later : IsLater clock left
  pub line : IsBefore clock course.span.end
  pub signals : AreSignals w (by past clock) course.signals
  pub levels : (u : ℕ) → clock ≤ u → IsBefore u course.span.end → level_at w.script u ≡ course.span.levels

-- a snapshot shows the values at a clock
pub record Shows (w : World) (past : List Turn) (clock : ℕ) (p : Snapshot) : Type 0 where
  pub values : (v : Variable) → IsVariable v → snapshot_value p v ≡ value_at w past clock v

-- a walk is along this history with this script: the keys of its turns rise, it ends here, and a clock lasts
-- so many units of time
pub record IsSet (w : World) (past : List Turn) (script : List Line) (ticks end : ℕ) : Type 0 where
  pub lines : w.script ≡ script
  pub rises : Rises past
  pub ends : end ≡ end_of w past
  pub lasts : ticks ≡ ticks_in (period_of (frequency w))
