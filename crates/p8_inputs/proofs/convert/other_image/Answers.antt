use Rattle.p8_inputs.proofs.Reading.{alone}
use Rattle.p8_inputs.proofs.convert.other_image.Goals as goal

pub returns-clause-reads : goal.returns-clause-reads
returns-clause-reads g c = alone c.other_in.result c.other_in.ensures.reads
