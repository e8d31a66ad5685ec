use Rattle.p8_desk.specs.PassSets.{AllThere}
use Rattle.p8_desk_runs.proofs.calls.rounds.Given as goal

abbrev pub invariant-loop : goal.invariant-loop
invariant-loop l = AllThere l.fn.desk l.passes
