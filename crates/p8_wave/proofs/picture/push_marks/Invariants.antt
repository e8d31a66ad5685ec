use Rattle.std.proofs.Common.{◌≡◌, ◌++◌, ℕ, drop, flat_map}
use Rattle.p8_access.specs.Worlds.{level_at}
use Rattle.p8_pins.specs.Levels.{is_high}
use Rattle.p8_pins.specs.LevelChanges.{lines_of}
use Rattle.p8_wave.specs.declared.grid.Column.{Column}
use Rattle.p8_wave.specs.Plot.{mark_of, text_of_mark}
use Rattle.p8_wave.specs.Tracing.{IsBefore}
use Rattle.p8_wave.proofs.picture.push_marks.Given as goal

abbrev pub invariant-loop-column : goal.invariant-loop-column
invariant-loop-column l = record {
  text : l.out.items ++ flat_map (λ (column : Column). text_of_mark l.ascii (mark_of (λ (t : ℕ). is_high l.pin (level_at (lines_of l.changes) t)) column)) (drop l.column-index l.columns)
      ≡ l.fn.out.items ++ flat_map (λ (column : Column). text_of_mark l.ascii (mark_of (λ (t : ℕ). is_high l.pin (level_at (lines_of l.changes) t)) column)) l.columns;
  at : IsBefore (λ (t : ℕ). is_high l.pin (level_at (lines_of l.changes) t)) l.pin l.trace (drop l.column-index l.columns);
}
