use Rattle.std.proofs.Common.{◌≡◌, ◌+◌, ◌-◌, [], length}
use Rattle.p8_machine.specs.Machines.{world_in, past_in, IsStanding}
use Rattle.p8_verify.specs.declared.verdicts.Verdict.{Verdict}
use Rattle.p8_verify.specs.Told.{IsTold}
use Rattle.p8_verify.proofs.verdicts.walk.Given as goal

abbrev pub invariant-loop-index : goal.invariant-loop-index
invariant-loop-index l = record {
  stands : IsStanding l.machine;
  world : world_in l.machine ≡ world_in l.fn.machine;
  done : length (past_in l.machine) ≡ l.index;
  told : (v : Verdict) → IsTold (world_in l.fn.machine) (past_in l.machine) (l.count - l.index) (l.index + 1) l.rest v → IsTold (world_in l.fn.machine) [] l.count 1 l.records v;
}
