use Rattle.p8_gen.specs.Names.{wide_in}
use Rattle.p8_stmt.proofs.Least.{no-fault}
use Rattle.p8_stmt.proofs.jump_laws.short_code_has_no_fault.Goals as goal

pub returns : goal.returns
returns c = λ n m ss code clean is. no-fault n m ss clean (wide_in is.widths) is.least.fits
