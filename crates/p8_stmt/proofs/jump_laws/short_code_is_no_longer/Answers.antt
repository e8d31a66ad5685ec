use Rattle.p8_stmt.proofs.Least.{no-longer}
use Rattle.p8_stmt.proofs.jump_laws.short_code_is_no_longer.Goals as goal

pub returns : goal.returns
returns c = no-longer
