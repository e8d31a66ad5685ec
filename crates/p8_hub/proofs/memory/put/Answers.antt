use Rattle.std.proofs.Common.{refl}
use Rattle.p8_hub.proofs.Numbers.{written_word, written_long}
use Rattle.p8_hub.proofs.memory.put.Goals as goal

pub returns-in-Word : goal.returns-in-Word
returns-in-Word c = λ a. rw (c.in-Word.is, c.write_u16.ensures) (written_word c.args.bytes.now c.args.address _ c.args.value a refl (rw c.in-Word.is at c.requires.room))

pub returns-in-Long : goal.returns-in-Long
returns-in-Long c = λ a. rw (c.in-Long.is, c.write_u32.ensures) (written_long c.args.bytes.now c.args.address _ c.args.value a refl (rw c.in-Long.is at c.requires.room))
