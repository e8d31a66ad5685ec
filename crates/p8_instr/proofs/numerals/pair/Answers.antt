use Rattle.p8_instr.proofs.Pairs.{pair_at}
use Rattle.p8_instr.proofs.numerals.pair.Goals as goal

pub returns : goal.returns
returns c = pair_at c.args.value
