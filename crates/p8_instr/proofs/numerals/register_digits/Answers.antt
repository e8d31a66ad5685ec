use Rattle.p8_instr.proofs.Digits.{register_digits}
use Rattle.p8_instr.proofs.numerals.register_digits.Goals as goal

pub returns : goal.returns
returns c = register_digits c.args.value _ _ _ _ c.pair-b.ensures c.pair-c.ensures
