-- internal
-- Receiving frames along the changes of a run's pins.
use Rattle.std.specs.Prelude.{ℕ, ◌+◌, ◌≡◌, ◌≤◌, ◌&&◌, if◌then◌else◌, Bool, not, List, [], ◌∷◌, ◌++◌, codes, filter, flat_map, length}
use Rattle.std.specs.Fmt.{decimal}
use Rattle.p8_access.specs.Worlds.{Line}
use Rattle.p8_instr.specs.Numerals.{hex}
use Rattle.p8_pins.specs.Levels.{is_high}
use Rattle.p8_pins.specs.LevelChanges.{Ahead, RiseFrom, pins_from}
use Rattle.p8_serial.specs.Serial.{stop_of, frames, falling_edges, is_good, frame_text}
use Rattle.p8_serial.specs.declared.frames.Frame.{Frame}

-- the clocks of the changes with which a pin falls, where it was so before
abbrev pub falls : ℕ → (high : Bool) → List Line → List ℕ
falls pin high [] = []
falls pin high (line ∷ lines) =
    if high && not (is_high pin line.levels) then line.clock ∷ falls pin (is_high pin line.levels) lines
    else falls pin (is_high pin line.levels) lines

-- the falling edges to come
abbrev pub falls_in : ℕ → Ahead → List ℕ
falls_in pin ahead = falls pin (is_high pin ahead.pins) ahead.changes

-- whether a pin is high at a clock to come
abbrev pub level_in : ℕ → Ahead → ℕ → Bool
level_in pin ahead t = is_high pin (pins_from ahead t)

-- no change to come is before a clock, and what is told from the clock before it on is what was told
pub record IsBehind (from : ℕ) (old new : Ahead) : Type 0 where
  pub clock : ℕ
  pub not_before : from ≤ clock
  pub rise : RiseFrom clock new.changes
  pub agrees : (t : ℕ) → clock ≤ t + 1 → pins_from new t ≡ pins_from old t

-- an edge has been passed, and what is told from there on is what was told
pub record IsPast (from edge : ℕ) (old new : Ahead) : Type 0 where
  pub not_before : from ≤ edge
  pub rise : RiseFrom (edge + 1) new.changes
  pub agrees : (t : ℕ) → edge ≤ t → pins_from new t ≡ pins_from old t

-- where a receiver is after a clock: what is told from there on is what the whole tells, and the changes to come are later
pub record IsReceiving (whole : ℕ → Bool) (pin after : ℕ) (ahead : Ahead) : Type 0 where
  pub levels : (t : ℕ) → after ≤ t → level_in pin ahead t ≡ whole t
  pub rise : RiseFrom (after + 1) ahead.changes

-- the line of a frame, by its fields
abbrev pub line_of_frame : Frame → List ℕ
line_of_frame frame =
    decimal frame.start ++ codes " " ++ (if frame.good then hex 2 frame.byte else codes "framing") ++ 10 ∷ []

-- the next frame that counts has been received
pub record IsNext (whole : ℕ → Bool) (pin bits end after : ℕ) (old : Ahead) (frame : Frame) (new : Ahead) : Type 0 where
  pub next : frames bits end after (falls_in pin old) ≡ frame.start ∷ frames bits end (stop_of bits frame.start) (falls_in pin new)
  pub text : line_of_frame frame ≡ frame_text whole bits frame.start
  pub good : frame.good ≡ is_good whole bits frame.start
  pub goes_on : IsReceiving whole pin (stop_of bits frame.start) new

-- what is received from a clock on: the lines of its frames, and how many of them are good
abbrev pub lines_to_come : (whole : ℕ → Bool) (bits : ℕ) → List ℕ → List ℕ
lines_to_come whole bits starts = flat_map (frame_text whole bits) starts

abbrev pub good_to_come : (whole : ℕ → Bool) (bits : ℕ) → List ℕ → ℕ
good_to_come whole bits starts = length (filter (is_good whole bits) starts)

-- what a receiver has done so far: with what is to come it is all
pub record HasReceived (whole : ℕ → Bool) (pin bits end : ℕ) (ahead : Ahead) (text : List ℕ) (count : ℕ) : Type 0 where
  pub after : ℕ
  pub at : IsReceiving whole pin after ahead
  pub lines : text ++ lines_to_come whole bits (frames bits end after (falls_in pin ahead)) ≡
      lines_to_come whole bits (frames bits end 0 (falling_edges whole end))
  pub good : count + good_to_come whole bits (frames bits end after (falls_in pin ahead)) ≡
      good_to_come whole bits (frames bits end 0 (falling_edges whole end))
