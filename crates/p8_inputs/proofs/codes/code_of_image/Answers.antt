use Rattle.p8_inputs.proofs.Reading.{alone}
use Rattle.p8_inputs.proofs.codes.code_of_image.Goals as goal

pub returns-clause-reads : goal.returns-clause-reads
returns-clause-reads g c = alone c.image_code_in.result c.image_code_in.ensures.reads
