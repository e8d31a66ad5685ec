use Rattle.std.proofs.Common.{◌≡◌, ◌-◌, length, reverse}
use Rattle.p8_machine.specs.Machines.{world_in, past_in, IsStanding}
use Rattle.p8_machine.specs.Counted.{AreCounters}
use Rattle.p8_machine.proofs.counted.count_turns.Given as goal

abbrev pub invariant-steps : goal.invariant-steps
invariant-steps l = record {
  stands : IsStanding l.machine;
  world : world_in l.machine ≡ world_in l.fn.machine;
  counted : AreCounters (world_in l.machine) (past_in l.machine) (reverse l.counters.items);
}

abbrev pub decreases-steps : goal.decreases-steps
decreases-steps l = (world_in l.machine).turns - length (past_in l.machine)
