use Rattle.p8_printed.proofs.ProperFiles.{proper_again}
use Rattle.p8_printed.proofs.proper_laws.proper_reads_back.Goals as goal

pub returns : goal.returns
returns c = proper_again
