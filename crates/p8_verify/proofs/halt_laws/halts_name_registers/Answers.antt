use Rattle.p8_verify.proofs.Histories.{halts-named}
use Rattle.p8_verify.proofs.halt_laws.halts_name_registers.Goals as goal

pub returns : goal.returns
returns c = halts-named
