use Rattle.std.proofs.Common.{◌≡◌, List}
use Rattle.p8_access.specs.declared.order.Turn.{Turn}
use Rattle.p8_desk.specs.Passes.{Owns}
use Rattle.p8_crew.specs.Jobs.{Makes}
use Rattle.p8_crew.proofs.job.make_turns.Given as goal

abbrev pub invariant-loop : goal.invariant-loop
invariant-loop g l = record {
  owns : Owns l.fn.desk l.pass;
  cog : l.pass.cog ≡ l.fn.pass.cog;
  makes : (made : List Turn) × Makes l.fn.desk.world l.fn.pass.cog l.fn.pass.steps made l.pass.steps;
}
