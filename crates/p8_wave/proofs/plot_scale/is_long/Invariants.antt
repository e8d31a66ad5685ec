use Rattle.std.proofs.Common.{◌≡◌, drop, length, nat_lt}
use Rattle.std.specs.List.{list_any}
use Rattle.p8_wave.specs.declared.grid.Column.{Column}
use Rattle.p8_wave.specs.Axes.{text_at}
use Rattle.p8_wave.proofs.plot_scale.is_long.Given as goal

abbrev pub invariant-loop-column : goal.invariant-loop-column
invariant-loop-column l =
    list_any (λ (column : Column). nat_lt 9 (length (text_at l.axis column.first))) (drop l.column-index l.columns)
    ≡ list_any (λ (column : Column). nat_lt 9 (length (text_at l.axis column.first))) l.columns
