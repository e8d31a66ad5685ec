use Rattle.std.proofs.Common.{◌≡◌, ◌-◌, length}
use Rattle.p8_machine.specs.Machines.{world_in, past_in, IsStanding}
use Rattle.p8_machine.proofs.run.Machine.run.Given as goal

abbrev pub invariant-steps : goal.invariant-steps
invariant-steps l = record {
  stands : IsStanding l.fn.self → IsStanding l.self;
  world : world_in l.self ≡ world_in l.fn.self;
}

abbrev pub decreases-steps : goal.decreases-steps
decreases-steps l = (world_in l.self).turns - length (past_in l.self)
