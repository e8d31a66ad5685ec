use Rattle.std.proofs.Common.{◌≡◌, ◌+◌, ◌*◌, ◌^◌, ◌<◌, ◌≤◌}
use Rattle.p8_bcog.specs.declared.stage.SpinStage.TheVariants.{Ready}
use Rattle.p8_bcog.specs.Stops.{Led}
use Rattle.p8_bcog.proofs.running.run.Given as goal

abbrev pub invariant-loop-done : goal.invariant-loop-done
invariant-loop-done l = record {
  ready : l.stage ≡ Ready;
  leads : Led l.memory l.cog l.done l.fn.state l.begin l.state l.clock;
  least : l.begin + 32 * l.done ≤ l.clock;
  most : l.clock ≤ l.begin + 544 * l.done;
  below : l.clock < 2 ^ 62 + 2 ^ 14;
}
