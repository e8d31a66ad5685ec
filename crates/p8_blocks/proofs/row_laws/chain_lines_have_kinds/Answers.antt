use Rattle.p8_blocks.proofs.StatementLines.{chain_lines_have_kinds}
use Rattle.p8_blocks.proofs.row_laws.chain_lines_have_kinds.Goals as goal

pub returns : goal.returns
returns c = chain_lines_have_kinds
