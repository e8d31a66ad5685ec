use Rattle.p8_gen.proofs.Widths.{method-level}
use Rattle.p8_gen.proofs.laws.each_bytecode_has_a_line.Goals as goal

pub returns : goal.returns
returns c = λ n ss. method-level n ss
