use Rattle.std.proofs.Common.{◌≡◌, flat_map}
use Rattle.std.specs.List.{range_with_len}
use Rattle.p8_pins.specs.LevelChanges.{lines_of}
use Rattle.p8_wave.specs.Tracing.{line_of_pin}
use Rattle.p8_wave.proofs.picture.picture.Given as goal

abbrev pub invariant-loop-pin : goal.invariant-loop-pin
invariant-loop-pin l = l.out.items ≡ flat_map (line_of_pin (lines_of l.changes) l.view l.columns) (range_with_len 0 l.pin)
