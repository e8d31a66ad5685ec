use Rattle.p8_blocks.proofs.ProperData.{head_proper, lines_proper}
use Rattle.p8_blocks.proofs.row_laws.data_are_proper.Goals as goal

pub returns-clause-head : goal.returns-clause-head
returns-clause-head c = head_proper

pub returns-clause-line : goal.returns-clause-line
returns-clause-line c = lines_proper
