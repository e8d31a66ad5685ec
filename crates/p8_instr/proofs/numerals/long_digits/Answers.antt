use Rattle.p8_instr.proofs.Digits.{long_digits}
use Rattle.p8_instr.proofs.numerals.long_digits.Goals as goal

pub returns : goal.returns
returns c = long_digits c.args.value _ _ _ _ _ _ _ _ c.pair-a.ensures c.pair-c.ensures c.pair-e.ensures c.pair-g.ensures
