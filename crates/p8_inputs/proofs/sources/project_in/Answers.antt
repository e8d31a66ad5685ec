use Rattle.std.proofs.Common.{subst}
use Rattle.p8_tree.specs.Views.{named_sources_of}
use Rattle.p8_objects.specs.Outcomes.{shelved, Answers}
use Rattle.p8_inputs.proofs.Gathering.{project-gathered, some}
use Rattle.p8_inputs.proofs.sources.project_in.Goals as goal

pub returns-in-Ok-clause-project : goal.returns-in-Ok-clause-project
returns-in-Ok-clause-project g c =
    let before = g.S.Shelf.faults c.args.shelf.now in
    let now = g.S.Shelf.faults c.gather.new.shelf in
    let files = g.S.Shelf.files c.args.shelf.now in
    let answers = subst (λ r. Answers (shelved files before now) c.args.file.now r) c.in-Ok.is c.gather.ensures.answers in
    record {
      gathered = project-gathered files before now c.args.file.now (named_sources_of c.in-Ok.gathered.project) answers;
      whole = record { some = some (named_sources_of c.in-Ok.gathered.project) c.args.file.now c.in-Ok.ensures.first; few = c.in-Ok.ensures.few; distinct = c.in-Ok.ensures.distinct; mentioned = c.in-Ok.ensures.mentioned; no_ring = c.in-Ok.ensures.no_ring; proper = c.in-Ok.ensures.proper };
    }

pub returns-in-Ok-clause-reads : goal.returns-in-Ok-clause-reads
returns-in-Ok-clause-reads g c short =
    let before = g.S.Shelf.faults c.args.shelf.now in
    let now = g.S.Shelf.faults c.gather.new.shelf in
    let files = g.S.Shelf.files c.args.shelf.now in
    let answers = subst (λ r. Answers (shelved files before now) c.args.file.now r) c.in-Ok.is c.gather.ensures.answers in
    let sources = named_sources_of c.in-Ok.gathered.project in
    record {
      kept = c.gather.ensures.kept;
      later = c.gather.ensures.later;
      stopped = tt;
      all_read = (sources, project-gathered files before now c.args.file.now sources answers, c.in-Ok.ensures.all_read);
      so_far = c.gather.ensures.in_order;
    }

pub returns-in-Err-clause-reads : goal.returns-in-Err-clause-reads
returns-in-Err-clause-reads g c short =
    let before = g.S.Shelf.faults c.args.shelf.now in
    let now = g.S.Shelf.faults c.gather.new.shelf in
    let files = g.S.Shelf.files c.args.shelf.now in
    record {
      kept = c.gather.ensures.kept;
      later = c.gather.ensures.later;
      stopped = c.stop_of_gathering.ensures files before now short c.args.file.now (subst (λ r. Answers (shelved files before now) c.args.file.now r) c.in-Err.is c.gather.ensures.answers);
      all_read = tt;
      so_far = c.gather.ensures.in_order;
    }
