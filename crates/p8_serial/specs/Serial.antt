-- The serial bytes on a pin: 8 data bits, no parity, one stop bit (RS-232 framing: the start bit is low, the data bits come
-- lowest first, the stop bit is high). `bits` is the length of a bit in clocks.
-- A past is a list of turns, the newest first.
use Rattle.std.specs.Prelude.{ℕ, zero, suc, ◌+◌, ◌*◌, ◌/◌, ◌^◌, ◌&&◌, nat_lt, if◌then◌else◌, Bool, false, not, List, [], ◌∷◌, ◌++◌, codes}
use Rattle.std.specs.Prelude.{filter, flat_map, length}
use Rattle.std.specs.Fmt.{decimal}
use Rattle.std.specs.List.{range_with_len}
use Rattle.p8_access.specs.declared.order.Turn.{Turn}
use Rattle.p8_access.specs.Worlds.{World}
use Rattle.p8_instr.specs.Numerals.{hex}
use Rattle.p8_pins.specs.Levels.{high_at, end_of}

-- a frame's stop bit is looked at in the middle of the tenth bit from where the frame begins
abbrev pub stop_of : (bits start : ℕ) → ℕ
stop_of bits start = start + 9 * bits + bits / 2

-- Where frames begin, of these falling edges in order: at the first one after a clock, then at the first one after
-- the look at that frame's stop bit. A frame counts where that look comes before the end, and none comes after one that doesn't.
abbrev pub frames : (bits end after : ℕ) → List ℕ → List ℕ
frames bits end after [] = []
frames bits end after (edge ∷ edges) =
    if nat_lt after edge then
    (if nat_lt (stop_of bits edge) end then edge ∷ frames bits end (stop_of bits edge) edges else [])
    else frames bits end after edges

-- on a pin that is high at these clocks
module _ (high : ℕ → Bool) where
  -- a falling edge: low here, and high one clock before; clock 0 is none
  abbrev pub falls_at : ℕ → Bool
  falls_at zero = false
  falls_at (suc t) = high t && not (high (suc t))

  -- the falling edges below an end, in order
  abbrev pub falling_edges : (end : ℕ) → List ℕ
  falling_edges end = filter falls_at (range_with_len 0 end)

  -- the number in the first data bits of a frame, the lowest first: each is looked at in its middle
  abbrev pub number_at : (bits start count : ℕ) → ℕ
  number_at bits start zero = 0
  number_at bits start (suc i) = number_at bits start i + (if high (start + (i + 1) * bits + bits / 2) then 2 ^ i else 0)

  -- the byte of a frame
  abbrev pub byte_at : (bits start : ℕ) → ℕ
  byte_at bits start = number_at bits start 8

  -- a frame is good where its stop bit is high
  abbrev pub is_good : (bits start : ℕ) → Bool
  is_good bits start = high (stop_of bits start)

  -- a frame's line: where it begins, and its byte in hexadecimal digits
  abbrev pub frame_text : (bits start : ℕ) → List ℕ
  frame_text bits start =
      decimal start ++ codes " " ++ (if is_good bits start then hex 2 (byte_at bits start) else codes "framing") ++ 10 ∷ []

  -- a line for each of these frames, then how many are good
  abbrev pub frames_text : (bits : ℕ) → List ℕ → List ℕ
  frames_text bits starts =
      flat_map (frame_text bits) starts ++ codes "bytes " ++ decimal (length (filter (is_good bits) starts)) ++ 10 ∷ []

  -- the frames below an end
  unfoldable pub serial_by : (bits end : ℕ) → List ℕ
  serial_by bits end = frames_text bits (frames bits end 0 (falling_edges end))

-- the frames of a pin in a run, up to where the run ends
unfoldable pub serial_of : World → List Turn → (pin bits : ℕ) → List ℕ
serial_of w past pin bits = serial_by (high_at w past pin) bits (end_of w past)
