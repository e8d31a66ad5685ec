use Rattle.p8_blocks.proofs.StatementLines.{case_items_have_kinds}
use Rattle.p8_blocks.proofs.row_laws.case_items_have_kinds.Goals as goal

pub returns : goal.returns
returns c = case_items_have_kinds
