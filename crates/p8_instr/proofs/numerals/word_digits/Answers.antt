use Rattle.p8_instr.proofs.Digits.{word_digits}
use Rattle.p8_instr.proofs.numerals.word_digits.Goals as goal

pub returns : goal.returns
returns c = word_digits c.args.value _ _ _ _ c.pair-a.ensures c.pair-c.ensures
