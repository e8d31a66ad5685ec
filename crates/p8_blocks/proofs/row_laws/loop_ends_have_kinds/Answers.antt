use Rattle.p8_blocks.proofs.StatementLines.{loop_ends_have_kinds}
use Rattle.p8_blocks.proofs.row_laws.loop_ends_have_kinds.Goals as goal

pub returns : goal.returns
returns c = loop_ends_have_kinds
