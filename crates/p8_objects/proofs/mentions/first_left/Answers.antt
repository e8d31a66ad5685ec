use Rattle.std.proofs.Common.{map, arith}
use Rattle.p8_tree.specs.Views.{child_of}
use Rattle.p8_objects.proofs.Items.{first_left_in_block, finished_block}
use Rattle.p8_objects.proofs.mentions.first_left.Goals as goal

pub returns-in-Some : goal.returns-in-Some
returns-in-Some c =
    first_left_in_block c.as_slice-block-items.result.now _ c.loop-block.block-index c.block-item.result (map child_of c.objects_of.result.now) (child_of c.in-Some.item.now)
    c.as_slice-block-items.ensures (omega arith) c.block-item.is c.objects_of.ensures c.loop-block.invariant c.in-Some.ensures

pub loop-block-preserved : goal.loop-block-preserved
loop-block-preserved c =
    finished_block c.as_slice-block-items.result.now c.loop-block.block-index c.block-item.result (map child_of c.objects_of.result.now)
    (omega arith) c.block-item.is c.objects_of.ensures c.loop-block.invariant c.in_default.ensures
