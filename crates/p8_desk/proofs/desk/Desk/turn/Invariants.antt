use Rattle.std.proofs.Common.{◌≡◌}
use Rattle.p8_desk.specs.Passes.{Owns}
use Rattle.p8_desk.specs.Tries.{Waited}
use Rattle.p8_desk.proofs.desk.Desk.turn.Given as goal

abbrev pub invariant-loop : goal.invariant-loop
invariant-loop g l = record { owns : Owns l.fn.self l.pass; cog : l.pass.cog ≡ l.fn.pass.cog; waited : Waited l.fn.pass.steps l.pass.steps }
