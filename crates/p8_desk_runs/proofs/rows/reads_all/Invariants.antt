use Rattle.std.proofs.Common.{◌≡◌}
use Rattle.p8_desk.specs.Passes.{Owns}
use Rattle.p8_desk_runs.proofs.rows.reads_all.Given as goal

abbrev pub invariant-loop-long : goal.invariant-loop-long
invariant-loop-long l = record { owns : Owns l.fn.desk l.pass; cog : l.pass.cog ≡ l.fn.pass.cog }
