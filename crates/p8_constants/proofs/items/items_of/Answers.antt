use Rattle.std.proofs.Common.{arith}
use Rattle.p8_constants.specs.Standing.{items_of}
use Rattle.p8_constants.proofs.Blocks.{items_more}
use Rattle.p8_constants.proofs.items.items_of.Goals as goal

pub loop-block-preserved : goal.loop-block-preserved
loop-block-preserved c =
    items_more c.as_slice-block-items.result.now c.loop-block.block-index c.block-item.result (items_of c.loop-block.items.items) (items_of c.put_items.new.items.items)
    (omega arith) c.block-item.is c.loop-block.invariant c.in_ok-put_items.ensures
