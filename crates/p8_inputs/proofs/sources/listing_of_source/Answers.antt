use Rattle.p8_inputs.proofs.Reading.{alone}
use Rattle.p8_inputs.proofs.sources.listing_of_source.Goals as goal

pub returns-clause-reads : goal.returns-clause-reads
returns-clause-reads g c = alone c.listing_in.result c.listing_in.ensures.reads
