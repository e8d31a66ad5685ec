use Rattle.std.proofs.lemmas.Result.{IfOk-weaker}
use Rattle.p8_inputs.proofs.Building.{image-of-project}
use Rattle.p8_inputs.proofs.Reading.{alone}
use Rattle.p8_inputs.proofs.sources.image_of_source.Goals as goal

pub returns-clause-image : goal.returns-clause-image
returns-clause-image g c =
    IfOk-weaker c.image_in.result _ _ (λ image is. image-of-project (g.S.Shelf.files c.args.shelf.now) c.args.short c.args.file.now image.file is) c.image_in.ensures.image

pub returns-clause-reads : goal.returns-clause-reads
returns-clause-reads g c = alone c.image_in.result c.image_in.ensures.reads
