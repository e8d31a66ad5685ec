use Rattle.std.proofs.Common.{◌≡◌, map}
use Rattle.std.specs.List.{range_with_len}
use Rattle.p8_wave.specs.Plot.{column_at}
use Rattle.p8_wave.proofs.grid.columns.Given as goal

abbrev pub invariant-loop-number : goal.invariant-loop-number
invariant-loop-number l = l.columns.items ≡ map (column_at l.from l.end l.width) (range_with_len 0 l.number)
