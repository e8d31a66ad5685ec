use Rattle.p8_constants.proofs.Closing.{closed_more}
use Rattle.p8_constants.proofs.search.close.Goals as goal

pub loop-node-preserved : goal.loop-node-preserved
loop-node-preserved c = closed_more c.args.marks.now c.loop-node.marks c.args.nodes.now c.loop-node.node-index c.args.number c.loop-node-test.true (c.requires c.loop-node.node-index 0 c.loop-node-test.true) c.loop-node.invariant
