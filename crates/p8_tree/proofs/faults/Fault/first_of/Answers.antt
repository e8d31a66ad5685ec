use Rattle.std.proofs.Common.{◌∙◌, ap, Some}
use Rattle.p8_tree.proofs.Firsts.{IsFirstOf-one, IsFirstOf-more}
use Rattle.p8_tree.proofs.faults.Fault.first_of.Goals as goal
use Rattle.p8_tree.proofs.faults.Fault.first_of.Goals.{in-None, in-Some}

pub loop-fault-preserved : goal.loop-fault-preserved
loop-fault-preserved c =
    elim c.match-first.branch [
      | in-None w ↦ IsFirstOf-one c.args.faults.now c.loop-fault.fault-index _ c.loop-fault-test.true c.loop-fault.invariant w.in-None.is w.first-is
      | in-Some w ↦ IsFirstOf-more c.args.faults.now c.loop-fault.fault-index _ w.in-Some.found c.loop-fault-test.true c.loop-fault.invariant w.in-Some.is (w.first-is ∙ ap Some w.earlier.ensures)
    ]
