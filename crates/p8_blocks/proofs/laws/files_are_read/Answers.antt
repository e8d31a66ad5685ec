use Rattle.p8_blocks.proofs.Agreeing.{files_are_read}
use Rattle.p8_blocks.proofs.laws.files_are_read.Goals as goal

pub returns : goal.returns
returns c = files_are_read c.lines_have_kinds.ensures
