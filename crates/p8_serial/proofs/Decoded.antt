-- The text of a run, by the changes of its pins.
use Rattle.std.proofs.Common.{◌≡◌, ◌∙◌, ap, ℕ, Bool, List}
use Rattle.p8_access.specs.declared.order.Turn.{Turn}
use Rattle.p8_access.specs.Worlds.{Line, World, level_at}
use Rattle.p8_pins.specs.Levels.{is_high, high_at, end_of}
use Rattle.p8_pins.specs.LevelChanges.{Tells}
use Rattle.p8_serial.specs.Serial.{serial_by, serial_of}

pub told-serial : (w : World) (past : List Turn) (pin bits end : ℕ) (lines : List Line) → Tells w past lines → end ≡ end_of w past → serial_by (λ t. is_high pin (level_at lines t)) bits end ≡ serial_of w past pin bits
unfolding serial_of
told-serial w past pin bits end lines tells is =
    ap (λ (high : ℕ → Bool). serial_by high bits end) (λ i t. is_high pin (tells.pins t i)) ∙ ap (serial_by (high_at w past pin) bits) is
