use Rattle.p8_desk.specs.PassSets.{AllThere}
use Rattle.p8_desk_runs.proofs.calls.round.Given as goal

abbrev pub invariant-loop-step : goal.invariant-loop-step
invariant-loop-step l = AllThere l.fn.desk l.passes
