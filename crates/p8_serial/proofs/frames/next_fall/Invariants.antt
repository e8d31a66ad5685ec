use Rattle.std.proofs.Common.{◌≡◌, ◌≤◌, ℕ, length}
use Rattle.p8_pins.specs.Levels.{is_high}
use Rattle.p8_pins.specs.LevelChanges.{RiseFrom}
use Rattle.p8_serial.specs.Receiving.{falls, falls_in, IsBehind}
use Rattle.p8_serial.proofs.frames.next_fall.Given as goal

abbrev pub invariant-loop-change : goal.invariant-loop-change
invariant-loop-change l = record {
  falls : falls_in l.pin l.fn.cursor ≡ falls l.pin l.high l.cursor.changes;
  high : l.high ≡ is_high l.pin l.cursor.pins;
  shorter : length l.cursor.changes ≤ length l.fn.cursor.changes;
  behind : (from : ℕ) → RiseFrom from l.fn.cursor.changes → IsBehind from l.fn.cursor l.cursor;
}

abbrev pub decreases-loop-change : goal.decreases-loop-change
decreases-loop-change l = length l.cursor.changes
