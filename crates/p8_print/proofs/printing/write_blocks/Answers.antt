use Rattle.p8_print.proofs.WrittenItems.{block_written}
use Rattle.p8_print.proofs.printing.write_blocks.Goals as goal

pub loop-block-preserved : goal.loop-block-preserved
loop-block-preserved c = block_written c.args.blocks.now c.loop-block.block-index c.block-item.result c.args.script.now c.loop-block.script c.loop-block-test.true c.block-item.is c.loop-block.invariant c.in_ok-write_block.ensures
