-- What is said of a script that sends bytes.
use Rattle.std.specs.Prelude.{ℕ, ◌+◌, ◌*◌, ◌≡◌, ◌<◌, ◌≤◌, false, List, [], ◌∷◌, ◌++◌, codes, length, All}
use Rattle.std.specs.Fmt.{decimal}
use Rattle.p8_access.specs.declared.order.Turn.{Turn}
use Rattle.p8_access.specs.Worlds.{World}
use Rattle.p8_access.specs.Pins.{dira}
use Rattle.p8_instr.specs.Numerals.{hex}
use Rattle.p8_pins.specs.Levels.{by, is_high, end_of}
use Rattle.p8_serial.specs.Typed.{sent}

-- the length of a bit, in clocks
pub record IsRate (bits : ℕ) : Type 0 where
  pub least : 2 ≤ bits
  pub most : bits ≤ 10000

-- bytes that may be sent: not more than 5,000, on one of 32 pins, from a clock on
pub record CanBeSent (bytes : List ℕ) (pin bits start : ℕ) : Type 0 where
  pub count : length bytes ≤ 5000
  pub fit : All (λ byte. byte < 256) bytes
  pub wired : pin < 32
  pub rate : IsRate bits
  pub begins : (1 ≤ start) × (start ≤ 100000000)

-- no cog makes a pin an output at any clock
abbrev pub IsInput : List Turn → ℕ → Type 0
IsInput past pin = (t : ℕ) → is_high pin (dira (by past t)) ≡ false

-- in this run the pin is an input, with the script that sends the bytes on it, and the run goes on past the last of them
pub record Hears (w : World) (past : List Turn) (bytes : List ℕ) (pin bits start : ℕ) : Type 0 where
  pub script : w.script ≡ sent bytes pin bits start
  pub input : IsInput past pin
  pub ends : start + 10 * bits * length bytes < end_of w past

-- a line for each byte: the frame of the first begins at a clock, each later one ten bits after the one before
abbrev pub received : (bits clock : ℕ) → List ℕ → List ℕ
received bits clock [] = []
received bits clock (byte ∷ bytes) =
    (decimal clock ++ codes " " ++ hex 2 byte ++ 10 ∷ []) ++ received bits (clock + 10 * bits) bytes

-- exactly these bytes were received, each at its place
abbrev pub received_text : List ℕ → (bits start : ℕ) → List ℕ
received_text bytes bits start = received bits start bytes ++ codes "bytes " ++ decimal (length bytes) ++ 10 ∷ []
