use Rattle.p8_inputs.proofs.Deciding.{one-reading}
use Rattle.p8_inputs.proofs.laws.one_reading.Goals as goal

pub returns : goal.returns
returns c files = one-reading files (c.one_source.ensures files)
