use Rattle.p8_desk.specs.PassSets.{AllThere}
use Rattle.p8_desk_runs.proofs.rows.promise.Given as goal

abbrev pub invariant-loop-cog : goal.invariant-loop-cog
invariant-loop-cog l = AllThere l.fn.desk l.passes
