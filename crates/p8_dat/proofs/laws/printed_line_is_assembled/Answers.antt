use Rattle.p8_dat.proofs.Printing.{printed_long, printed_good}
use Rattle.p8_dat.proofs.laws.printed_line_is_assembled.Goals as goal

pub returns-clause-long : goal.returns-clause-long
returns-clause-long c = printed_long

pub returns-clause-good : goal.returns-clause-good
returns-clause-good c = printed_good
