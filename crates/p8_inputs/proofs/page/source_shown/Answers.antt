use Rattle.p8_inputs.proofs.Reading.{as-paging, wanting}
use Rattle.p8_inputs.proofs.page.source_shown.Goals as goal

pub returns-in_err-boot-clause-reads : goal.returns-in_err-boot-clause-reads
returns-in_err-boot-clause-reads g c = as-paging _ (wanting c.from_residual-in_err-boot.result c.from_residual-in_err-boot.ensures.1 c.in_ok-read.ensures.reads)
