-- The clocks at which a wait's test holds while the outputs stay as they are.
use Rattle.std.specs.Prelude.{ℕ, ◌<◌, nat_lt, List, Option, Some, None, find}
use Rattle.p8_access.specs.declared.kinds.Test.{Test}
use Rattle.p8_access.specs.Worlds.{Line, level_at}
use Rattle.p8_access.specs.Pins.{pins_with, Holds}
use Rattle.p8_pins.specs.Scripts.{clocks_of}

-- a test holds at a clock, with a script's levels on the input pins
abbrev pub HoldsAt : List Line → (directions outs : ℕ) → Test → ℕ → Type 0
HoldsAt script directions outs test clock = Holds test (pins_with directions outs (level_at script clock)) clock

-- the clock of the first line after a clock, where there is one
abbrev pub next_clock : List Line → ℕ → Option ℕ
next_clock script clock = find (λ u. nat_lt clock u) (clocks_of script)

-- a clock comes before an end, or there is no end
abbrev pub IsBefore : ℕ → Option ℕ → Type 0
IsBefore clock None = Unit {0}
IsBefore clock (Some end) = clock < end
