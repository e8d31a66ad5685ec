use Rattle.std.proofs.Common.{◌+◌, ◌≤◌, length}
use Rattle.p8_access.specs.Worlds.{level_at}
use Rattle.p8_pins.specs.Levels.{is_high}
use Rattle.p8_pins.specs.LevelChanges.{lines_of}
use Rattle.p8_serial.specs.Receiving.{HasReceived}
use Rattle.p8_serial.proofs.frames.frames_text.Given as goal

abbrev pub invariant-loop-frame : goal.invariant-loop-frame
invariant-loop-frame l = record {
  received : HasReceived (λ t. is_high l.fn.pin (level_at (lines_of l.fn.changes) t)) l.fn.pin l.fn.bits l.fn.end l.cursor l.out.items l.count;
  count : l.count + length l.cursor.changes ≤ length l.fn.changes;
}

abbrev pub decreases-loop-frame : goal.decreases-loop-frame
decreases-loop-frame l = length l.cursor.changes
