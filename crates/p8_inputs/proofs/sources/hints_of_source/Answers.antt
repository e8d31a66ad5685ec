use Rattle.p8_inputs.proofs.Reading.{alone}
use Rattle.p8_inputs.proofs.sources.hints_of_source.Goals as goal

pub returns-clause-reads : goal.returns-clause-reads
returns-clause-reads g c = alone c.hints_in.result c.hints_in.ensures.reads
