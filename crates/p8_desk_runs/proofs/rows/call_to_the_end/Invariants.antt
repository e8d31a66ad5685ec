use Rattle.std.proofs.Common.{◌<◌}
use Rattle.p8_desk.specs.PassSets.{AllThere}
use Rattle.p8_desk_runs.proofs.rows.call_to_the_end.Given as goal

abbrev pub invariant-loop : goal.invariant-loop
invariant-loop l = record { there : AllThere l.fn.desk l.passes; near : l.cog < 8; few : l.made < 3985 }
