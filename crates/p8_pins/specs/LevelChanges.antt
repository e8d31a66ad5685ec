-- The pins of a run as a list of changes: each has a clock, and the 32 pins from that clock on.
use Rattle.std.specs.Prelude.{ℕ, ◌+◌, ◌≡◌, ◌<◌, ◌≤◌, List, [], ◌∷◌, ◌++◌, map}
use Rattle.p8_access.specs.declared.order.Turn.{Turn}
use Rattle.p8_access.specs.Worlds.{Line, World, level_at, levels_after}
use Rattle.p8_pins.specs.declared.change.Change.{Change}
use Rattle.p8_pins.specs.Levels.{pins_when}

abbrev pub line_of : Change → Line
line_of change = record { clock = change.clock; levels = change.pins }

abbrev pub lines_of : List Change → List Line
lines_of changes = map line_of changes

-- the clocks of the changes rise strictly, and none is before this one
abbrev pub RiseFrom : ℕ → List Line → Type 0
RiseFrom clock [] = Unit {0}
RiseFrom clock (line ∷ lines) = (clock ≤ line.clock) × RiseFrom (line.clock + 1) lines

-- these changes tell the pins of a run at each clock
pub record Tells (w : World) (past : List Turn) (lines : List Line) : Type 0 where
  pub rise : RiseFrom 0 lines
  pub pins : (t : ℕ) → level_at lines t ≡ pins_when w past t

-- no clock of these changes is later than this one
abbrev pub Within : ℕ → List Line → Type 0
Within clock [] = Unit {0}
Within clock (line ∷ lines) = (line.clock ≤ clock) × Within clock lines

-- the first of these changes is later than a clock, where there is one
abbrev pub IsLater : ℕ → List Line → Type 0
IsLater clock [] = Unit {0}
IsLater clock (line ∷ lines) = clock < line.clock

-- the pins at some clock, and the changes that come later
pub record Ahead : Type 0 where
  pub pins : ℕ
  pub changes : List Line

-- the pins at that clock or a later one
abbrev pub pins_from : Ahead → ℕ → ℕ
pins_from ahead t = levels_after ahead.pins ahead.changes t

-- the pins that some changes leave
abbrev pub pins_after : ℕ → List Line → ℕ
pins_after pins [] = pins
pins_after pins (line ∷ lines) = pins_after line.levels lines

-- some changes have been passed, none of them later than a clock
pub record HasPassed (clock : ℕ) (old new : Ahead) : Type 0 where
  pub passed : List Line
  pub parts : old.changes ≡ passed ++ new.changes
  pub within : Within clock passed
  pub pins : new.pins ≡ pins_after old.pins passed
