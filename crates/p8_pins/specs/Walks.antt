-- internal
-- Where a walk along a run is.
use Rattle.std.specs.Prelude.{ℕ, ◌+◌, ◌≡◌, ◌<◌, ◌≤◌, List, [], ◌∷◌, Option, Some, None, IfSome, min}
use Rattle.p8_access.specs.declared.order.Turn.{Turn}
use Rattle.p8_access.specs.Worlds.{Line, level_at}
use Rattle.p8_access.specs.Pins.{pins_with, dira, outputs}
use Rattle.p8_pins.specs.Matches.{IsBefore}
use Rattle.p8_pins.specs.Levels.{by}
use Rattle.p8_pins.specs.Driving.{StandFor, ComeFrom}
use Rattle.p8_pins.specs.LevelChanges.{RiseFrom, Within}
use Rattle.p8_pins.specs.declared.walk.Walk.{Walk}

-- the pins at a clock, with a script's levels on the input pins
abbrev pub pins_along : List Line → List Turn → ℕ → ℕ
pins_along script past t = pins_with (dira (by past t)) (outputs (by past t)) (level_at script t)

-- the pins stay so from a clock on up to an end, or for ever
abbrev pub IsStill : List Line → List Turn → ℕ → Option ℕ → Type 0
IsStill script past clock end = (t : ℕ) → clock ≤ t → IsBefore t end → pins_along script past t ≡ pins_along script past clock

-- a walk has come to a clock: all turns up to it are taken, and the script's span is that of the clock
pub record IsAt (script : List Line) (past : List Turn) (clock : ℕ) (walk : Walk) : Type 0 where
  pub stands : StandFor past clock walk.registers walk.turns.now
  pub later : ComeFrom (clock + 1) walk.turns.now
  pub levels : walk.span.levels ≡ level_at script clock
  pub end : IfSome walk.span.end (λ end. clock < end)
  pub same : (u : ℕ) → clock ≤ u → IsBefore u walk.span.end → level_at script u ≡ walk.span.levels

-- the earlier of a line's clock and the next turn's
abbrev pub earlier_of : Option ℕ → List Turn → Option ℕ
earlier_of line [] = line
earlier_of None (turn ∷ turns) = Some turn.key.clock
earlier_of (Some line) (turn ∷ turns) = Some (min line turn.key.clock)

-- these changes tell the pins up to a clock, and stay so from there on
pub record HasTold (script : List Line) (past : List Turn) (clock : ℕ) (lines : List Line) : Type 0 where
  pub rise : RiseFrom 0 lines
  pub within : Within clock lines
  pub pins : (t : ℕ) → level_at lines t ≡ pins_along script past (min t clock)
