use Rattle.std.proofs.lemmas.Result.{IfOk-weaker}
use Rattle.p8_tree.specs.Views.{named_sources_of}
use Rattle.p8_objects.proofs.Sourcing.{count-of}
use Rattle.p8_inputs.proofs.Building.{listing-from}
use Rattle.p8_inputs.proofs.Reading.{handed, project-built}
use Rattle.p8_inputs.proofs.sources.listing_in.Goals as goal

pub returns-clause-text : goal.returns-clause-text
returns-clause-text g c =
    let files = g.S.Shelf.files c.args.shelf.now in
    let top = c.args.file.now in
    let sources = named_sources_of c.in_ok-gathered.gathered.project in
    let gathered = c.in_ok-gathered.ensures.project.gathered in
    IfOk-weaker c.listing_of_project-text.result _ _ (λ text is. listing-from files c.args.short top sources gathered text.items is) c.listing_of_project-text.ensures.text

pub returns-clause-reads : goal.returns-clause-reads
returns-clause-reads g c =
    let read = project-built c.args.short c.args.file.now (named_sources_of c.in_ok-gathered.gathered.project) c.in_ok-gathered.gathered.sources c.listing_of_project-text.result
    c.in_ok-gathered.ensures.project.gathered c.in_ok-gathered.ensures.sources c.listing_of_project-text.ensures.stopped (c.in_ok-gathered.ensures.reads c.args.short) in
    record { kept = read.kept; later = read.later; stopped = read.stopped; all_read = read.all_read; so_far = read.so_far }

pub returns-in_err-gathered-clause-reads : goal.returns-in_err-gathered-clause-reads
returns-in_err-gathered-clause-reads g c =
    let read = handed c.from_residual.result c.from_residual.ensures.1 (c.in_err-gathered.ensures.reads c.args.short) in
    record { kept = read.kept; later = read.later; stopped = read.stopped; all_read = read.all_read; so_far = read.so_far }

pub listing_of_project-text-requires-clause-beside : goal.listing_of_project-text-requires-clause-beside
listing_of_project-text-requires-clause-beside g c =
    count-of (g.S.Shelf.files c.args.shelf.now) (named_sources_of c.in_ok-gathered.gathered.project) c.in_ok-gathered.gathered.sources c.in_ok-gathered.ensures.sources

pub listing_of_project-text-requires-clause-whole : goal.listing_of_project-text-requires-clause-whole
listing_of_project-text-requires-clause-whole g c = c.in_ok-gathered.ensures.project.whole
