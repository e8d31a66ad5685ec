use Rattle.std.proofs.Common.{slice_get, arith}
use Rattle.p8_names.proofs.ShowingChildren.{look_ups_next}
use Rattle.p8_names.proofs.copies.children_at.Goals as goal

pub loop-target-preserved : goal.loop-target-preserved
loop-target-preserved c = look_ups_next (slice_get c.args.seen.now) c.args.targets.now c.loop-target.target-index 0 c.loop-target.items c.put_copy.new.items (omega arith) c.loop-target.invariant c.in_ok-put_copy.ensures
