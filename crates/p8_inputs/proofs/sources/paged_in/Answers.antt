use Rattle.std.proofs.Common.{false}
use Rattle.std.proofs.lemmas.Result.{IfOk-weaker}
use Rattle.p8_tree.specs.Views.{named_sources_of}
use Rattle.p8_objects.proofs.Sourcing.{count-of}
use Rattle.p8_inputs.proofs.Building.{image-from, legend-from, blocks-from}
use Rattle.p8_inputs.proofs.Reading.{handed, project-built}
use Rattle.p8_inputs.proofs.sources.paged_in.Goals as goal

pub returns-clause-image : goal.returns-clause-image
returns-clause-image g c =
    let files = g.S.Shelf.files c.args.shelf.now in
    let top = c.args.file.now in
    let sources = named_sources_of c.in_ok-gathered.gathered.project in
    let gathered = c.in_ok-gathered.ensures.project.gathered in
    IfOk-weaker c.paged_project-read.result _ _ (λ read is. image-from files false top sources gathered c.in_ok-gathered.ensures.project.whole.proper read.image is) c.paged_project-read.ensures.image

pub returns-clause-memory : goal.returns-clause-memory
returns-clause-memory g c = IfOk-weaker c.paged_project-read.result _ _ (λ read is. is.1) c.paged_project-read.ensures.image

pub returns-clause-legend : goal.returns-clause-legend
returns-clause-legend g c =
    let files = g.S.Shelf.files c.args.shelf.now in
    let top = c.args.file.now in
    let sources = named_sources_of c.in_ok-gathered.gathered.project in
    let gathered = c.in_ok-gathered.ensures.project.gathered in
    IfOk-weaker c.paged_project-read.result _ _ (λ read is. legend-from files false top sources gathered c.in_ok-gathered.gathered.sources c.in_ok-gathered.ensures.sources read.legend is) c.paged_project-read.ensures.legend

pub returns-clause-blocks : goal.returns-clause-blocks
returns-clause-blocks g c =
    let files = g.S.Shelf.files c.args.shelf.now in
    let top = c.args.file.now in
    let sources = named_sources_of c.in_ok-gathered.gathered.project in
    let gathered = c.in_ok-gathered.ensures.project.gathered in
    IfOk-weaker c.paged_project-read.result _ _ (λ read is. (is.0, blocks-from files false top sources gathered c.in_ok-gathered.gathered.sources c.in_ok-gathered.ensures.sources is.0 is.1, is.2)) c.paged_project-read.ensures.blocks

pub returns-clause-reads : goal.returns-clause-reads
returns-clause-reads g c =
    project-built false c.args.file.now (named_sources_of c.in_ok-gathered.gathered.project) c.in_ok-gathered.gathered.sources c.paged_project-read.result
    c.in_ok-gathered.ensures.project.gathered c.in_ok-gathered.ensures.sources c.paged_project-read.ensures.stopped (c.in_ok-gathered.ensures.reads false)

pub returns-in_err-gathered-clause-reads : goal.returns-in_err-gathered-clause-reads
returns-in_err-gathered-clause-reads g c = handed c.from_residual.result c.from_residual.ensures.1 (c.in_err-gathered.ensures.reads false)

pub paged_project-read-requires-clause-beside : goal.paged_project-read-requires-clause-beside
paged_project-read-requires-clause-beside g c =
    count-of (g.S.Shelf.files c.args.shelf.now) (named_sources_of c.in_ok-gathered.gathered.project) c.in_ok-gathered.gathered.sources c.in_ok-gathered.ensures.sources

pub paged_project-read-requires-clause-whole : goal.paged_project-read-requires-clause-whole
paged_project-read-requires-clause-whole g c = c.in_ok-gathered.ensures.project.whole
