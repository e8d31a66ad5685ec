-- internal
-- The lines of a script as they are kept.
use Rattle.std.specs.Prelude.{ℕ, zero, suc, ◌^◌, ◌<◌, List, [], ◌∷◌, map, length, slice_index}
use Rattle.p8_access.specs.declared.kinds.Test.{Test}
use Rattle.p8_access.specs.declared.kinds.Test.TheVariants.{Count, PinsEqual, PinsDiffer}
use Rattle.p8_access.specs.Worlds.{Line}
use Rattle.p8_pins.specs.declared.line_text.Change.{Change}
use Rattle.p8_pins.specs.Scripts.{clocks_of}

abbrev pub line_of : Change → Line
line_of change = record { clock = change.clock; levels = change.levels }

abbrev pub lines_of : List Change → List Line
lines_of changes = map line_of changes

-- the clock of a place
abbrev pub clock_of : List Line → ℕ → ℕ
clock_of script k = slice_index (clocks_of script) k

-- each clock has ten digits at most
abbrev pub IsShort : List Line → Type 0
IsShort script = (k : ℕ) → k < length script → clock_of script k < 10 ^ 10

-- the levels that the first lines of a script leave
abbrev pub levels_by : ℕ → List Line → ℕ → ℕ
levels_by before script zero = before
levels_by before [] (suc n) = before
levels_by before (line ∷ lines) (suc n) = levels_by line.levels lines n

-- a test of pins
abbrev pub IsOfPins : Test → Type 0
IsOfPins (Count target) = ⊥
IsOfPins (PinsEqual state mask) = Unit {0}
IsOfPins (PinsDiffer state mask) = Unit {0}
