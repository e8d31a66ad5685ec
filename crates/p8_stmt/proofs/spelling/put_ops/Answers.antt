use Rattle.p8_stmt.proofs.spelling.put_ops.Goals as goal

pub put_whole-requires : goal.put_whole-requires
put_whole-requires c = c.requires c.loop-op.op-index _ c.loop-op-test.true
