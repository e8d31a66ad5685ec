use Rattle.std.proofs.Common.{map, refl, arith}
use Rattle.p8_tree.specs.Views.{child_of}
use Rattle.p8_objects.specs.Sources.{most_objects}
use Rattle.p8_objects.proofs.Items.{before, at_in_block, before_more, still_left}
use Rattle.p8_objects.proofs.Elements.{mapped_at}
use Rattle.p8_objects.proofs.mentions.item_too_many.Goals as goal

pub returns-in-Some : goal.returns-in-Some
returns-in-Some c = record {
  item = child_of c.in-Some.item.now;
  stands = at_in_block c.as_slice-block-items.result.now _ c.loop-block.block-index c.block-item.result (map child_of c.objects_of-items.result.now) (child_of c.in-Some.item.now) most_objects c.loop-block.left
      c.as_slice-block-items.ensures (omega arith) c.block-item.is c.objects_of-items.ensures c.loop-block.invariant (mapped_at child_of c.objects_of-items.result.now c.loop-block.left c.in-Some.item.now c.in-Some.ensures.lookup.3.0 c.in-Some.ensures.lookup.1);
  there = refl;
}

pub loop-block-preserved : goal.loop-block-preserved
loop-block-preserved c =
    still_left (before c.as_slice-block-items.result.now c.loop-block.block-index) _ c.objects_of-items.result.now c.loop-block.left most_objects
    (before_more c.as_slice-block-items.result.now c.loop-block.block-index c.block-item.result (map child_of c.objects_of-items.result.now) (omega arith) c.block-item.is c.objects_of-items.ensures)
    c.in-None.ensures.lookup.3 c.loop-block.invariant
