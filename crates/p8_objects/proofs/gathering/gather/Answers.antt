use Rattle.std.proofs.Common.{ℕ, List, refl, sym, ◌∙◌, subst, arith}
use Rattle.p8_tree.specs.declared.projects.ProjectFile.{ProjectFile}
use Rattle.p8_tree.specs.Proper.{IsProperFile}
use Rattle.p8_objects.specs.Mentioned.{sources_of}
use Rattle.p8_objects.specs.Standing.{Stands}
use Rattle.p8_objects.specs.Goings.{CallsFor}
use Rattle.p8_objects.specs.Outcomes as outcomes
use Rattle.p8_objects.specs.Outcomes.{shelved, Answers}
use Rattle.p8_objects.proofs.Calling.{told, begin, asked_for, asked_for_none, file_fault, call_fault, more, no_trees, tree_more}
use Rattle.p8_objects.proofs.Ordering.{nothing-in_order, begin-reading, so-far, with-one, read-more}
use Rattle.p8_objects.specs.Whole.{AreSources}
use Rattle.p8_objects.proofs.Sourcing.{no-sources, source-more, beside-files}
use Rattle.p8_objects.proofs.Wholes.{whole_project}
use Rattle.p8_objects.proofs.gathering.gather.Goals as goal

pub files-init : goal.files-init
files-init g c =
    let p = begin (g.S.Shelf.files c.args.shelf.now) (g.S.Shelf.faults c.args.shelf.now) c.args.top.now c.in_ok-copy_of.field-0 c.new-files.result c.new-done.result c.new-files.ensures c.new-done.ensures (c.in_ok-copy_of.ensures ∙ c.as_bytes.ensures.value) in
    record { stands = p.0; asked = (p.1, p.2); read = begin-reading (g.S.Shelf.files c.args.shelf.now) c.args.top.now (g.S.Shelf.log c.args.shelf.now) c.new-files.result c.new-files.ensures; on = p.3; sources = no-sources (g.S.Shelf.files c.args.shelf.now) c.new-files.result c.new-sources.result c.new-files.ensures c.new-sources.ensures; proper = no_trees IsProperFile c.new-files.result c.new-files.ensures; later = omega arith; kept = refl }

pub returns-in_err-read_file-clause-answers : goal.returns-in_err-read_file-clause-answers
returns-in_err-read_file-clause-answers g c =
    told c.from_residual-in_err-read_file.result _ (λ o. Answers (shelved (g.S.Shelf.files c.args.shelf.now) (g.S.Shelf.faults c.args.shelf.now) (g.S.Shelf.faults c.read_file.new.shelf)) c.args.top.now o) c.from_residual-in_err-read_file.ensures.1
    (file_fault (g.S.Shelf.files c.args.shelf.now) (g.S.Shelf.files c.files.shelf) (g.S.Shelf.faults c.args.shelf.now) (g.S.Shelf.faults c.files.shelf) (g.S.Shelf.faults c.read_file.new.shelf) c.args.top.now c.in-Some.next
    c.files.invariant.on (asked_for (g.S.Shelf.files c.args.shelf.now) c.files.asked c.in-Some.next c.files.invariant.asked c.in-Some.is) c.files.invariant.kept c.files.invariant.later _ c.in_err-read_file.ensures.fault)

pub next_file-requires-clause-stands : goal.next_file-requires-clause-stands
next_file-requires-clause-stands g c =
    (more (g.S.Shelf.files c.args.shelf.now) (g.S.Shelf.files c.files.shelf) (g.S.Shelf.faults c.args.shelf.now) (g.S.Shelf.faults c.files.shelf) (g.S.Shelf.faults c.read_file.new.shelf) c.args.top.now c.in-Some.next.name c.files.files c.as_slice.result.now c.files.done c.in_ok-read_file.field-0
    c.files.invariant.stands (asked_for (g.S.Shelf.files c.args.shelf.now) c.files.asked c.in-Some.next c.files.invariant.asked c.in-Some.is).0 c.files.invariant.on c.files.invariant.kept c.in_ok-read_file.ensures.file (c.as_slice.ensures ∙ c.in_ok-push.ensures.ok)).0

pub next_file-requires-clause-beside : goal.next_file-requires-clause-beside
next_file-requires-clause-beside g c =
    let are = subst (λ (bs : List (List ℕ)). AreSources (g.S.Shelf.files c.args.shelf.now) (sources_of c.as_slice.result.now) bs) (sym c.as_slice-in-Some.ensures)
    (source-more (g.S.Shelf.files c.args.shelf.now) (g.S.Shelf.files c.files.shelf) c.in-Some.next.name c.files.files c.as_slice.result.now c.files.sources c.read_file.new.sources c.in_ok-read_file.field-0
    c.files.invariant.sources c.in_ok-read_file.ensures.file.named c.files.invariant.kept c.in_ok-read_file.ensures.source (c.as_slice.ensures ∙ c.in_ok-push.ensures.ok)) in
    beside-files (g.S.Shelf.files c.args.shelf.now) c.as_slice.result.now c.as_slice-in-Some.result.now are

pub returns-in_err-asked-clause-answers : goal.returns-in_err-asked-clause-answers
returns-in_err-asked-clause-answers g c =
    let are = subst (λ (bs : List (List ℕ)). AreSources (g.S.Shelf.files c.args.shelf.now) (sources_of c.as_slice.result.now) bs) (sym c.as_slice-in-Some.ensures)
    (source-more (g.S.Shelf.files c.args.shelf.now) (g.S.Shelf.files c.files.shelf) c.in-Some.next.name c.files.files c.as_slice.result.now c.files.sources c.read_file.new.sources c.in_ok-read_file.field-0
    c.files.invariant.sources c.in_ok-read_file.ensures.file.named c.files.invariant.kept c.in_ok-read_file.ensures.source (c.as_slice.ensures ∙ c.in_ok-push.ensures.ok)) in
    told c.from_residual-in_err-asked.result _ (λ o. Answers (shelved (g.S.Shelf.files c.args.shelf.now) (g.S.Shelf.faults c.args.shelf.now) (g.S.Shelf.faults c.read_file.new.shelf)) c.args.top.now o) c.from_residual-in_err-asked.ensures.1
    (call_fault (g.S.Shelf.files c.args.shelf.now) (g.S.Shelf.faults c.args.shelf.now) (g.S.Shelf.faults c.read_file.new.shelf) c.args.top.now
    (more (g.S.Shelf.files c.args.shelf.now) (g.S.Shelf.files c.files.shelf) (g.S.Shelf.faults c.args.shelf.now) (g.S.Shelf.faults c.files.shelf) (g.S.Shelf.faults c.read_file.new.shelf) c.args.top.now c.in-Some.next.name c.files.files c.as_slice.result.now c.files.done c.in_ok-read_file.field-0
    c.files.invariant.stands (asked_for (g.S.Shelf.files c.args.shelf.now) c.files.asked c.in-Some.next c.files.invariant.asked c.in-Some.is).0 c.files.invariant.on c.files.invariant.kept c.in_ok-read_file.ensures.file (c.as_slice.ensures ∙ c.in_ok-push.ensures.ok)).1
    _ (c.in_err-asked.ensures.refused (g.S.Shelf.files c.args.shelf.now) c.args.top.now are))

pub files-preserved : goal.files-preserved
files-preserved g c =
    let are = subst (λ (bs : List (List ℕ)). AreSources (g.S.Shelf.files c.args.shelf.now) (sources_of c.as_slice.result.now) bs) (sym c.as_slice-in-Some.ensures)
    (source-more (g.S.Shelf.files c.args.shelf.now) (g.S.Shelf.files c.files.shelf) c.in-Some.next.name c.files.files c.as_slice.result.now c.files.sources c.read_file.new.sources c.in_ok-read_file.field-0
    c.files.invariant.sources c.in_ok-read_file.ensures.file.named c.files.invariant.kept c.in_ok-read_file.ensures.source (c.as_slice.ensures ∙ c.in_ok-push.ensures.ok)) in
    let p = more (g.S.Shelf.files c.args.shelf.now) (g.S.Shelf.files c.files.shelf) (g.S.Shelf.faults c.args.shelf.now) (g.S.Shelf.faults c.files.shelf) (g.S.Shelf.faults c.read_file.new.shelf) c.args.top.now c.in-Some.next.name c.files.files c.push.new.self c.files.done c.in_ok-read_file.field-0
    c.files.invariant.stands (asked_for (g.S.Shelf.files c.args.shelf.now) c.files.asked c.in-Some.next c.files.invariant.asked c.in-Some.is).0 c.files.invariant.on c.files.invariant.kept c.in_ok-read_file.ensures.file c.in_ok-push.ensures.ok in
    record {
      stands = subst (λ (fs : List ProjectFile). Stands (sources_of fs) c.next_file.new.done) c.as_slice.ensures c.in_ok-asked.ensures.stands;
      asked = subst (λ (fs : List ProjectFile). CallsFor (g.S.Shelf.files c.args.shelf.now) c.args.top.now (sources_of fs) c.next_file.new.done c.in_ok-asked.asked) c.as_slice.ensures (c.in_ok-asked.ensures.next (g.S.Shelf.files c.args.shelf.now) c.args.top.now are);
      read = read-more (g.S.Shelf.files c.args.shelf.now) (g.S.Shelf.files c.files.shelf) (g.S.Shelf.faults c.files.shelf) (g.S.Shelf.faults c.read_file.new.shelf) (g.S.Shelf.log c.args.shelf.now) (g.S.Shelf.log c.files.shelf) (g.S.Shelf.log c.read_file.new.shelf) c.args.top.now c.in-Some.next.name c.files.files c.push.new.self c.files.done c.in_ok-read_file.field-0
          c.files.invariant.read (asked_for (g.S.Shelf.files c.args.shelf.now) c.files.asked c.in-Some.next c.files.invariant.asked c.in-Some.is).0 c.files.invariant.kept c.in_ok-read_file.ensures.file c.in_ok-read_file.ensures.logged c.in_ok-push.ensures.ok;
      on = p.1;
      sources = source-more (g.S.Shelf.files c.args.shelf.now) (g.S.Shelf.files c.files.shelf) c.in-Some.next.name c.files.files c.push.new.self c.files.sources c.read_file.new.sources c.in_ok-read_file.field-0
          c.files.invariant.sources c.in_ok-read_file.ensures.file.named c.files.invariant.kept c.in_ok-read_file.ensures.source c.in_ok-push.ensures.ok;
      proper = tree_more IsProperFile c.files.files c.push.new.self c.in_ok-read_file.field-0 c.files.invariant.proper c.in_ok-read_file.ensures.file.proper c.in_ok-push.ensures.ok;
      later = omega (arith, c.files.invariant.later, c.read_file.ensures.later);
      kept = c.read_file.ensures.kept ∙ c.files.invariant.kept;
    }

pub returns-clause-answers : goal.returns-clause-answers
returns-clause-answers g c =
    c.files.invariant.on.on (g.S.Shelf.faults c.files.shelf) (outcomes.project (sources_of c.files.files)) (outcomes.whole (asked_for_none (g.S.Shelf.files c.args.shelf.now) c.files.done c.files.asked c.files.invariant.asked c.in_default.is))

pub returns-clause-first : goal.returns-clause-first
returns-clause-first g c = (whole_project (returns-clause-answers g c)).first

pub returns-clause-distinct : goal.returns-clause-distinct
returns-clause-distinct g c = (whole_project (returns-clause-answers g c)).distinct

pub returns-clause-mentioned : goal.returns-clause-mentioned
returns-clause-mentioned g c = (whole_project (returns-clause-answers g c)).mentioned

pub returns-clause-no_ring : goal.returns-clause-no_ring
returns-clause-no_ring g c = (whole_project (returns-clause-answers g c)).no_ring

pub returns-clause-few : goal.returns-clause-few
returns-clause-few g c = (whole_project (returns-clause-answers g c)).few

pub returns-clause-read : goal.returns-clause-read
returns-clause-read g c = (whole_project (returns-clause-answers g c)).from

pub returns-clause-sources : goal.returns-clause-sources
returns-clause-sources g c = c.files.invariant.sources

pub returns-clause-proper : goal.returns-clause-proper
returns-clause-proper g c = c.files.invariant.proper

pub returns-in_err-copy_of-clause-in_order : goal.returns-in_err-copy_of-clause-in_order
returns-in_err-copy_of-clause-in_order g c = nothing-in_order (g.S.Shelf.files c.args.shelf.now) c.args.top.now (g.S.Shelf.log c.args.shelf.now)

pub returns-in_err-read_file-clause-in_order : goal.returns-in_err-read_file-clause-in_order
returns-in_err-read_file-clause-in_order g c =
    with-one (g.S.Shelf.files c.args.shelf.now) c.args.top.now (g.S.Shelf.log c.args.shelf.now) (g.S.Shelf.log c.files.shelf) (g.S.Shelf.log c.read_file.new.shelf)
    c.files.invariant.read c.in-Some.next.name (asked_for (g.S.Shelf.files c.args.shelf.now) c.files.asked c.in-Some.next c.files.invariant.asked c.in-Some.is).0 c.read_file.ensures.one

pub returns-in_err-push-clause-in_order : goal.returns-in_err-push-clause-in_order
returns-in_err-push-clause-in_order g c =
    with-one (g.S.Shelf.files c.args.shelf.now) c.args.top.now (g.S.Shelf.log c.args.shelf.now) (g.S.Shelf.log c.files.shelf) (g.S.Shelf.log c.read_file.new.shelf)
    c.files.invariant.read c.in-Some.next.name (asked_for (g.S.Shelf.files c.args.shelf.now) c.files.asked c.in-Some.next c.files.invariant.asked c.in-Some.is).0 c.read_file.ensures.one

pub returns-in_err-asked-clause-in_order : goal.returns-in_err-asked-clause-in_order
returns-in_err-asked-clause-in_order g c =
    with-one (g.S.Shelf.files c.args.shelf.now) c.args.top.now (g.S.Shelf.log c.args.shelf.now) (g.S.Shelf.log c.files.shelf) (g.S.Shelf.log c.read_file.new.shelf)
    c.files.invariant.read c.in-Some.next.name (asked_for (g.S.Shelf.files c.args.shelf.now) c.files.asked c.in-Some.next c.files.invariant.asked c.in-Some.is).0 c.read_file.ensures.one

pub returns-clause-all_read : goal.returns-clause-all_read
returns-clause-all_read g c = c.files.invariant.read.read

pub returns-clause-in_order : goal.returns-clause-in_order
returns-clause-in_order g c =
    so-far (g.S.Shelf.files c.args.shelf.now) c.args.top.now (g.S.Shelf.log c.args.shelf.now) (g.S.Shelf.log c.files.shelf) (g.S.Shelf.log c.files.shelf) c.files.invariant.read
