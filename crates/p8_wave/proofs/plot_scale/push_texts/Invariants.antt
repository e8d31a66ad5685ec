use Rattle.std.proofs.Common.{◌≡◌, ◌++◌, drop, map}
use Rattle.p8_wave.specs.declared.grid.Column.{Column}
use Rattle.p8_wave.specs.Axes.{apart, axis_label, every, text_at}
use Rattle.p8_wave.proofs.plot_scale.push_texts.Given as goal

abbrev pub invariant-loop-column : goal.invariant-loop-column
invariant-loop-column l =
    l.out.items ++ apart l.step l.before (map (λ (tick : Column). text_at l.axis tick.first) (every l.step (drop l.column-index l.columns)))
    ≡ l.fn.out.items ++ (axis_label l.axis ++ apart l.step 0 (map (λ (tick : Column). text_at l.axis tick.first) (every l.step l.columns)))
