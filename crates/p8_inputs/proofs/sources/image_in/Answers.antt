use Rattle.std.proofs.lemmas.Result.{IfOk-weaker}
use Rattle.p8_tree.specs.Views.{named_sources_of}
use Rattle.p8_objects.proofs.Sourcing.{count-of}
use Rattle.p8_inputs.proofs.Building.{image-from}
use Rattle.p8_inputs.proofs.Reading.{handed, project-built}
use Rattle.p8_inputs.proofs.sources.image_in.Goals as goal

pub returns-clause-image : goal.returns-clause-image
returns-clause-image g c =
    let files = g.S.Shelf.files c.args.shelf.now in
    let top = c.args.file.now in
    let sources = named_sources_of c.in_ok-gathered.gathered.project in
    let gathered = c.in_ok-gathered.ensures.project.gathered in
    IfOk-weaker c.image_of_project-image.result _ _ (λ image is. image-from files c.args.short top sources gathered c.in_ok-gathered.ensures.project.whole.proper image is) c.image_of_project-image.ensures.image

pub returns-clause-memory : goal.returns-clause-memory
returns-clause-memory g c = IfOk-weaker c.image_of_project-image.result _ _ (λ image is. is.1) c.image_of_project-image.ensures.image

pub returns-clause-reads : goal.returns-clause-reads
returns-clause-reads g c =
    project-built c.args.short c.args.file.now (named_sources_of c.in_ok-gathered.gathered.project) c.in_ok-gathered.gathered.sources c.image_of_project-image.result
    c.in_ok-gathered.ensures.project.gathered c.in_ok-gathered.ensures.sources c.image_of_project-image.ensures.stopped (c.in_ok-gathered.ensures.reads c.args.short)

pub returns-in_err-gathered-clause-reads : goal.returns-in_err-gathered-clause-reads
returns-in_err-gathered-clause-reads g c = handed c.from_residual.result c.from_residual.ensures.1 (c.in_err-gathered.ensures.reads c.args.short)

pub image_of_project-image-requires-clause-beside : goal.image_of_project-image-requires-clause-beside
image_of_project-image-requires-clause-beside g c =
    count-of (g.S.Shelf.files c.args.shelf.now) (named_sources_of c.in_ok-gathered.gathered.project) c.in_ok-gathered.gathered.sources c.in_ok-gathered.ensures.sources

pub image_of_project-image-requires-clause-whole : goal.image_of_project-image-requires-clause-whole
image_of_project-image-requires-clause-whole g c = c.in_ok-gathered.ensures.project.whole
