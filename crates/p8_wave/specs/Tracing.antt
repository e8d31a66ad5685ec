-- internal
-- A pin along the changes of a run's pins.
use Rattle.std.specs.Prelude.{ℕ, ◌≡◌, ◌<◌, ◌≤◌, ◌&&◌, nat_le, if◌then◌else◌, Bool, true, false, not, List, [], ◌∷◌}
use Rattle.p8_access.specs.Worlds.{Line, level_at}
use Rattle.p8_pins.specs.Levels.{is_high}
use Rattle.p8_pins.specs.LevelChanges.{Ahead, RiseFrom, pins_from}
use Rattle.p8_wave.specs.Plot.{pin_line}
use Rattle.p8_wave.specs.declared.grid.Column.{Column}
use Rattle.p8_wave.specs.declared.view.View.{View}

-- two levels are the same
abbrev pub same : Bool → Bool → Bool
same true b = b
same false b = not b

-- the pin is so after each of the changes that aren't later than a clock
abbrev pub stays : (pin : ℕ) (high : Bool) (clock : ℕ) → List Line → Bool
stays pin high clock [] = true
stays pin high clock (line ∷ lines) =
    if nat_le line.clock clock then same high (is_high pin line.levels) && stays pin high clock lines else true

-- whether a pin is high at a clock to come
abbrev pub level_in : ℕ → Ahead → ℕ → Bool
level_in pin ahead t = is_high pin (pins_from ahead t)

-- from a clock on, what is told is what the whole tells
pub record IsFrom (whole : ℕ → Bool) (pin from : ℕ) (ahead : Ahead) : Type 0 where
  pub levels : (t : ℕ) → from ≤ t → level_in pin ahead t ≡ whole t
  pub rise : RiseFrom 0 ahead.changes

-- columns with clocks, one after the other, none before a clock
abbrev pub Follow : (from : ℕ) → List Column → Type 0
Follow from [] = Unit {0}
Follow from (column ∷ columns) = (from ≤ column.first) × (column.first < column.end) × Follow column.end columns

-- the columns to come, and a trace that has not come to the first of them
pub record IsBefore (whole : ℕ → Bool) (pin : ℕ) (ahead : Ahead) (columns : List Column) : Type 0 where
  pub from : ℕ
  pub at : IsFrom whole pin from ahead
  pub follow : Follow from columns

-- the line of a pin along the changes, where it is shown
abbrev pub line_of_pin : List Line → View → List Column → (pin : ℕ) → List ℕ
line_of_pin lines view columns pin =
    if is_high pin view.pins then pin_line (λ t. is_high pin (level_at lines t)) view.ascii columns pin else []
