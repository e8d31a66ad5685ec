use Rattle.p8_inputs.proofs.Reading.{unasked}
use Rattle.p8_inputs.proofs.inputs.bytes_in.Goals as goal

pub returns-in_err-name-clause-reads : goal.returns-in_err-name-clause-reads
returns-in_err-name-clause-reads g c = unasked c.from_residual.result c.from_residual.ensures.1
