use Rattle.std.proofs.Common.{◌≡◌}
use Rattle.p8_desk.specs.Passes.{Owns}
use Rattle.p8_prop_runs.proofs.holding.Held.stays.Given as goal

abbrev pub invariant-loop : goal.invariant-loop
invariant-loop g l = record { owns : Owns l.fn.desk l.pass; cog : l.pass.cog ≡ l.fn.pass.cog }
