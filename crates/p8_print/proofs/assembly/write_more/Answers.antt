use Rattle.p8_print.proofs.WrittenData.{item_written}
use Rattle.p8_print.proofs.assembly.write_more.Goals as goal

pub loop-item-preserved : goal.loop-item-preserved
loop-item-preserved c = item_written c.args.items.now c.loop-item.item-index c.item-item.result c.args.script.now c.loop-item.script c.loop-item-test.true c.item-item.is c.loop-item.invariant c.in_ok-write_word.ensures c.in_ok-write_datum.ensures
