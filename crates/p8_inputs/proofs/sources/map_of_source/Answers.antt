use Rattle.p8_inputs.proofs.Reading.{alone}
use Rattle.p8_inputs.proofs.sources.map_of_source.Goals as goal

pub returns-clause-reads : goal.returns-clause-reads
returns-clause-reads g c = alone c.map_in.result c.map_in.ensures.reads
