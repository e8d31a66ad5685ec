-- What a script sends is received.
use Rattle.std.proofs.Common.{◌≡◌, ◌∙◌, ap, sym, ℕ, ◌+◌, ◌*◌, ◌<◌, Bool, true, List, [], length, flat_map, arith}
use Rattle.p8_access.specs.declared.order.Turn.{Turn}
use Rattle.p8_access.specs.Worlds.{Line, World, level_at, levels_after}
use Rattle.p8_pins.specs.Levels.{is_high, high_at, end_of}
use Rattle.p8_pins.specs.LevelChanges.{Ahead}
use Rattle.p8_pins.proofs.Passing.{passes, rise-from}
use Rattle.p8_serial.specs.Serial.{frames, falling_edges, frames_text, serial_by, serial_of}
use Rattle.p8_serial.specs.Typed.{frame_of, line_at, lines_from, sent}
use Rattle.p8_serial.specs.Laws.{CanBeSent, Hears, received_text}
use Rattle.p8_serial.specs.Receiving.{falls, IsReceiving}
use Rattle.p8_serial.proofs.Edges.{all-edges}
use Rattle.p8_serial.proofs.Rows.{high-is, row-rise}
use Rattle.p8_serial.proofs.Heard.{starts, all-frames, all-heard}
use Rattle.p8_serial.proofs.Inputs.{input-level}

module _ (bytes : List ℕ) (pin bits start : ℕ) (can : CanBeSent bytes pin bits start) where
  -- after the line at clock 0
  up : Ahead
  up = record { pins = (line_at pin 0 true).levels; changes = lines_from pin bits start true (flat_map frame_of bytes) }

  module _ (end : ℕ) (ends : start + 10 * bits * length bytes < end) (whole : ℕ → Bool) (is : (t : ℕ) → whole t ≡ is_high pin (level_at (sent bytes pin bits start) t)) where
    told : (t : ℕ) → whole t ≡ is_high pin (levels_after (line_at pin 0 true).levels (lines_from pin bits start true (flat_map frame_of bytes)) t)
    unfolding sent
    told t = is t ∙ ap (is_high pin) (passes 0 t (line_at pin 0 true) (lines_from pin bits start true (flat_map frame_of bytes)) (omega arith))

    receiving : IsReceiving whole pin 0 up
    unfolding up
    receiving = record {
      levels = λ t le. sym (told t);
      rise = rise-from 1 start (lines_from pin bits start true (flat_map frame_of bytes)) can.begins.0 (row-rise pin bits start true (flat_map frame_of bytes) (omega (arith, can.rate.least)));
    }

    edges : frames bits end 0 (falling_edges whole end) ≡ starts bits start bytes
    unfolding up
    edges =
        all-edges bits end whole pin up receiving
        ∙ ap (λ (h : Bool). frames bits end 0 (falls pin h (lines_from pin bits start true (flat_map frame_of bytes)))) (high-is pin bits true)
        ∙ all-frames pin bits end bytes 0 start (omega (arith, can.rate.least)) (omega (arith, can.begins.0)) ends

    pub heard : serial_by whole bits end ≡ received_text bytes bits start
    unfolding serial_by
    heard =
        ap (frames_text whole bits) edges
        ∙ all-heard pin bits (omega (arith, can.rate.least)) whole bytes start can.fit (record { is = λ t le. told t })

pub sent-is-heard : (w : World) (past : List Turn) (bytes : List ℕ) (pin bits start : ℕ) → CanBeSent bytes pin bits start → Hears w past bytes pin bits start → serial_of w past pin bits ≡ received_text bytes bits start
unfolding serial_of
sent-is-heard w past bytes pin bits start can h =
    heard bytes pin bits start can (end_of w past) h.ends (high_at w past pin)
    (λ t. input-level w past pin t can.wired (h.input t) ∙ ap (λ (lines : List Line). is_high pin (level_at lines t)) h.script)
