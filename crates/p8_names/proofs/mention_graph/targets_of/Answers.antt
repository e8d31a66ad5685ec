use Rattle.std.proofs.Common.{arith}
use Rattle.p8_fold.specs.ConstantEntries.{at_bytes}
use Rattle.p8_names.proofs.ShowingChildren.{targets_next}
use Rattle.p8_names.proofs.mention_graph.targets_of.Goals as goal

pub loop-item-preserved : goal.loop-item-preserved
loop-item-preserved c =
    targets_next (λ x. at_bytes x.file c.args.numbers.now.names) c.as_slice-item-items.result.now c.loop-item.item-index c.item-item.result c.loop-item.targets.items c.add_target.new.targets.items (omega arith) c.item-item.is c.loop-item.invariant c.in_ok-add_target.ensures
