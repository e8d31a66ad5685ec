use Rattle.std.proofs.Common.{◌≡◌, ◌+◌, ◌*◌, ◌/◌}
use Rattle.p8_pins.specs.LevelChanges.{HasPassed}
use Rattle.p8_serial.specs.Serial.{number_at}
use Rattle.p8_serial.specs.Receiving.{level_in}
use Rattle.p8_serial.proofs.frames.receive_byte.Given as goal

abbrev pub invariant-loop-i : goal.invariant-loop-i
invariant-loop-i l = record {
  byte : l.byte ≡ number_at (level_in l.pin l.fn.cursor) l.bits l.start l.i;
  passed : HasPassed (l.start + l.i * l.bits + l.bits / 2) l.fn.cursor l.cursor;
}
