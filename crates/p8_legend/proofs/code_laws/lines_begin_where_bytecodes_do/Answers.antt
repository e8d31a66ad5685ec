use Rattle.p8_legend.proofs.Lined.{lines-begin}
use Rattle.p8_legend.proofs.code_laws.lines_begin_where_bytecodes_do.Goals as goal

pub returns : goal.returns
returns c = λ n ss. lines-begin n ss
