use Rattle.p8_constants.proofs.Rowing.{items_more}
use Rattle.p8_constants.proofs.rows.Rows.add_items.Goals as goal

pub loop-index-preserved : goal.loop-index-preserved
loop-index-preserved c = items_more c.args.items.now c.loop-index.index c.index-items-index.result c.args.self.now c.loop-index.self c.push.new.self c.loop-index-test.true c.index-items-index.is c.loop-index.invariant c.in_ok-push.ensures
