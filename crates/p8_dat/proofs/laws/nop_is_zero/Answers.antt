use Rattle.p8_dat.proofs.Printing.{nop_long}
use Rattle.p8_dat.proofs.laws.nop_is_zero.Goals as goal

pub returns : goal.returns
returns c = nop_long
