use Rattle.p8_blocks.proofs.StatementLines.{statements_have_kinds}
use Rattle.p8_blocks.proofs.row_laws.statements_have_kinds.Goals as goal

pub returns : goal.returns
returns c = statements_have_kinds
