-- The pin script that sends bytes on a pin: 8 data bits, no parity, one stop bit. `bits` is the length of a bit in clocks.
use Rattle.std.specs.Prelude.{ℕ, ◌+◌, ◌^◌, ◌==◌, if◌then◌else◌, Bool, true, false, List, [], ◌∷◌, ◌++◌, codes, flat_map}
use Rattle.std.specs.Fmt.{decimal}
use Rattle.std.specs.Int.{bit_at}
use Rattle.p8_access.specs.Worlds.{Line}
use Rattle.p8_instr.specs.Numerals.{hex}

-- whether a bit of a byte is set
abbrev pub has_bit : (byte i : ℕ) → Bool
has_bit byte i = bit_at byte i == 1

-- the ten bits of a frame: a low start bit, the byte's bits from the lowest, a high stop bit
unfoldable pub frame_of : ℕ → List Bool
frame_of byte =
    false ∷ has_bit byte 0 ∷ has_bit byte 1 ∷ has_bit byte 2 ∷ has_bit byte 3
    ∷ has_bit byte 4 ∷ has_bit byte 5 ∷ has_bit byte 6 ∷ has_bit byte 7 ∷ true ∷ []

-- a line of the script: from a clock on this pin is so, and all others are low
abbrev pub line_at : (pin clock : ℕ) → Bool → Line
line_at pin clock high = record { clock = clock; levels = if high then 2 ^ pin else 0 }

-- a row of bits from a clock on has a line wherever a bit isn't as the one before it
abbrev pub lines_from : (pin bits clock : ℕ) (before : Bool) → List Bool → List Line
lines_from pin bits clock before [] = []
lines_from pin bits clock true (true ∷ row) = lines_from pin bits (clock + bits) true row
lines_from pin bits clock false (false ∷ row) = lines_from pin bits (clock + bits) false row
lines_from pin bits clock true (false ∷ row) = line_at pin clock false ∷ lines_from pin bits (clock + bits) false row
lines_from pin bits clock false (true ∷ row) = line_at pin clock true ∷ lines_from pin bits (clock + bits) true row

-- the pin is high from clock 0 on; from a clock on it sends the frames of the bytes, one after the other
unfoldable pub sent : List ℕ → (pin bits start : ℕ) → List Line
sent bytes pin bits start = line_at pin 0 true ∷ lines_from pin bits start true (flat_map frame_of bytes)

-- a line of a script in print: its clock, and its levels in eight hexadecimal digits
abbrev pub line_text : Line → List ℕ
line_text line = decimal line.clock ++ codes " " ++ hex 8 line.levels ++ 10 ∷ []

-- the script that sends these bytes
unfoldable pub typed_text : List ℕ → (pin bits start : ℕ) → List ℕ
typed_text bytes pin bits start = flat_map line_text (sent bytes pin bits start)
