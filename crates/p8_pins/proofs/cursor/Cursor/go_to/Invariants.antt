use Rattle.std.proofs.Common.{◌≡◌, ℕ, length}
use Rattle.p8_pins.specs.LevelChanges.{HasPassed, lines_of}
use Rattle.p8_pins.proofs.cursor.Cursor.go_to.Given as goal

abbrev pub invariant-loop-change : goal.invariant-loop-change
invariant-loop-change l = record {
  passed : HasPassed l.clock l.fn.self (record { pins = l.self-inside.pins; changes = lines_of l.self-inside.changes.now });
}

abbrev pub decreases-loop-change : goal.decreases-loop-change
decreases-loop-change l = length l.self-inside.changes.now
