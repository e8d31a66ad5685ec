use Rattle.std.proofs.Common.{ℕ, ◌-◌, List, IfErr, sym, ◌∙◌, subst, arith}
use Rattle.p8_io.specs.Shelves.{Files}
use Rattle.p8_tree.specs.Views.{child_of, named_source_of, source_of}
use Rattle.p8_objects.specs.Mentioned.{sources_of}
use Rattle.p8_objects.specs.Sources.{mentions}
use Rattle.p8_objects.specs.Standing.{IsFirstLeft, AreFinished}
use Rattle.p8_objects.specs.Goings.{IsRefusedCall}
use Rattle.p8_objects.proofs.Calling.{Reached, reached, told, refused_call, asked_is, nothing_left, finished_one}
use Rattle.p8_objects.specs.Whole.{AreSources}
use Rattle.p8_objects.proofs.Sourcing.{bytes-at, read-at}
use Rattle.p8_objects.proofs.next.next_file.Goals as goal

pub returns-in_err-asked-in-Some-clause-refused : goal.returns-in_err-asked-in-Some-clause-refused
returns-in_err-asked-in-Some-clause-refused c =
    let i : ℕ = c.files.at-counter - 1 in
    let r : Reached (sources_of c.args.files.now) c.files.done i (named_source_of c.index-files-at.result) =
    reached c.args.files.now c.files.done c.as_slice.result.now c.files.at-counter c.index-files-at.result c.files.invariant.stands c.files.invariant.behind c.files-test.true c.files.invariant.within c.as_slice.ensures (sym c.contains.ensures.value ∙ c.if-contains.false) c.index-files-at.is in
    let l : IsFirstLeft (sources_of c.args.files.now) c.files.done (mentions (source_of c.index-files-at.result.tree)) (child_of c.in-Some.item.now) =
    subst (λ (ds : List ℕ). IsFirstLeft (sources_of c.args.files.now) ds (mentions (source_of c.index-files-at.result.tree)) (child_of c.in-Some.item.now)) c.as_slice-in-files.ensures c.in-Some.ensures in
    let bytes = c.index-sources-at.result in
    told c.from_residual.result _ (λ o. IfErr o (λ f. (shelf : Files) (top : List ℕ) → AreSources shelf (sources_of c.args.files.now) c.args.sources.now → IsRefusedCall shelf top (sources_of c.args.files.now) f)) c.from_residual.ensures.1
    (λ shelf top are. refused_call bytes (child_of c.in-Some.item.now) r l _ c.in_err-asked-in-Some.ensures.refused shelf top
    (bytes-at shelf (sources_of c.args.files.now) c.args.sources.now i (named_source_of c.index-files-at.result) bytes are r.at (read-at c.args.sources.now i bytes (omega (arith, c.requires.beside, c.files-test.true, c.files.invariant.within)) c.index-sources-at.is)))

pub returns-in-Some-clause-next : goal.returns-in-Some-clause-next
returns-in-Some-clause-next c =
    let i : ℕ = c.files.at-counter - 1 in
    let r : Reached (sources_of c.args.files.now) c.files.done i (named_source_of c.index-files-at.result) =
    reached c.args.files.now c.files.done c.as_slice.result.now c.files.at-counter c.index-files-at.result c.files.invariant.stands c.files.invariant.behind c.files-test.true c.files.invariant.within c.as_slice.ensures (sym c.contains.ensures.value ∙ c.if-contains.false) c.index-files-at.is in
    let l : IsFirstLeft (sources_of c.args.files.now) c.files.done (mentions (source_of c.index-files-at.result.tree)) (child_of c.in-Some.item.now) =
    subst (λ (ds : List ℕ). IsFirstLeft (sources_of c.args.files.now) ds (mentions (source_of c.index-files-at.result.tree)) (child_of c.in-Some.item.now)) c.as_slice-in-files.ensures c.in-Some.ensures in
    let bytes = c.index-sources-at.result in
    λ shelf top are. asked_is bytes (child_of c.in-Some.item.now) c.in_ok-asked-in-Some.field-0 r l c.in_ok-asked-in-Some.ensures.name c.in_ok-asked-in-Some.ensures.mention c.in_ok-asked-in-Some.ensures.new c.in_ok-asked-in-Some.ensures.room shelf top
    (bytes-at shelf (sources_of c.args.files.now) c.args.sources.now i (named_source_of c.index-files-at.result) bytes are r.at (read-at c.args.sources.now i bytes (omega (arith, c.requires.beside, c.files-test.true, c.files.invariant.within)) c.index-sources-at.is))

pub files-preserved : goal.files-preserved
files-preserved c =
    let i : ℕ = c.files.at-counter - 1 in
    let r : Reached (sources_of c.args.files.now) c.files.done i (named_source_of c.index-files-at.result) =
    reached c.args.files.now c.files.done c.as_slice.result.now c.files.at-counter c.index-files-at.result c.files.invariant.stands c.files.invariant.behind c.files-test.true c.files.invariant.within c.as_slice.ensures (sym c.contains.ensures.value ∙ c.if-contains.false) c.index-files-at.is in
    let a : AreFinished (sources_of c.args.files.now) c.files.done (mentions (source_of c.index-files-at.result.tree)) =
    subst (λ (ds : List ℕ). AreFinished (sources_of c.args.files.now) ds (mentions (source_of c.index-files-at.result.tree))) c.as_slice-in-files.ensures c.in-None.ensures in
    let p = finished_one c.push.new.self r a c.in_ok-push-in-None.ensures.ok in
    record { stands = p.0; within = omega arith; behind = p.1 }

pub returns-clause-next : goal.returns-clause-next
returns-clause-next c = λ shelf top are. nothing_left c.files.at-counter c.files.invariant.stands c.files.invariant.behind (omega arith) c.requires.some top
