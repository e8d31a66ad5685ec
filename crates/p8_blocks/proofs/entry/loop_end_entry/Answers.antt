use Rattle.std.proofs.Common.{}
use Rattle.p8_blocks.proofs.Entering.{loop_ended, loop_missing, granted, denied}
use Rattle.p8_blocks.proofs.entry.loop_end_entry.Goals as goal

pub returns-then-is_plain_loop-clause-enters : goal.returns-then-is_plain_loop-clause-enters
returns-then-is_plain_loop-clause-enters c = λ ls t h w p.
    loop_ended ls c.args.first.begun t c.args.first.word c.args.first.place w p c.requires (granted c.if-is_plain_loop.true (c.is_plain_loop.ensures ls h))

pub returns-else-is_plain_loop-clause-enters : goal.returns-else-is_plain_loop-clause-enters
returns-else-is_plain_loop-clause-enters c = λ ls t h w p.
    loop_missing ls c.args.first.begun t c.args.first.word c.args.first.place w p c.requires (denied c.if-is_plain_loop.false (c.is_plain_loop.ensures ls h))
