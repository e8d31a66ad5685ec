use Rattle.std.proofs.Common.{◌≡◌, ◌++◌, codes, drop, map}
use Rattle.p8_wave.specs.declared.grid.Column.{Column}
use Rattle.p8_wave.specs.Axes.{apart, every}
use Rattle.p8_wave.proofs.plot_scale.push_ticks.Given as goal

abbrev pub invariant-loop-column : goal.invariant-loop-column
invariant-loop-column l =
    l.out.items ++ apart 10 l.before (map (λ (tick : Column). codes "|") (every 10 (drop l.column-index l.columns)))
    ≡ l.fn.out.items ++ apart 10 4 (map (λ (tick : Column). codes "|") (every 10 l.columns))
