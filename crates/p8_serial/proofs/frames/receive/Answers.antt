use Rattle.std.proofs.Common.{arith, ◌+◌}
use Rattle.p8_serial.proofs.Receiving.{a-frame}
use Rattle.p8_serial.proofs.frames.receive.Goals as goal

pub returns-else-saturating_sub-start-clause-frame : goal.returns-else-saturating_sub-start-clause-frame
returns-else-saturating_sub-start-clause-frame c = λ whole after at.
    a-frame c.args.pin c.args.bits c.args.end whole after c.args.cursor.now at c.next_fall.new.cursor c.in-Some.start c.in-Some.ensures.falls (c.in-Some.ensures.past (after + 1) at.rise)
    c.receive_byte-byte.new.cursor c.level-good.new.cursor c.receive_byte-byte.result c.level-good.result
    (omega (arith, c.if-saturating_sub-start.false, c.saturating_sub.ensures, c.from.ensures, c.from-in-Some.ensures))
    c.receive_byte-byte.ensures.byte c.receive_byte-byte.ensures.passed
    _ (omega (arith, c.from.ensures, c.from-in-Some.ensures)) c.level-good.ensures.level c.level-good.ensures.passed c.level-good.ensures.later
