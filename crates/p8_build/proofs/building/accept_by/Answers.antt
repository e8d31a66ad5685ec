use Rattle.std.proofs.Common.{◌≡◌, ◌<◌, List, length, map, slice_get, Some, refl, ap, sym, ◌∙◌, subst, arith}
use Rattle.std.proofs.lemmas.List.{length-map}
use Rattle.std.proofs.lemmas.Option.{slice_get_read}
use Rattle.p8_tree.specs.Views.{named_source_of}
use Rattle.p8_kinds.specs.declared.children.Children.{Children}
use Rattle.p8_image.specs.Projects.{BeginsWithMain}
use Rattle.p8_build.specs.declared.accepting.AcceptedFile.{AcceptedFile}
use Rattle.p8_build.specs.Accepted.{compiled_file, IsFinished}
use Rattle.p8_build.specs.Builds.{objects_of}
use Rattle.p8_build.specs.Phases.{AreAccepted, IsFirstBelow, IsFirstAt, IfPhaseRefused, IsImageRefusal, clock_in}
use Rattle.p8_build.proofs.Lists.{told}
use Rattle.p8_build.proofs.Earliest.{first_at}
use Rattle.p8_build.proofs.Wholes.{compiled_all, object_made, objects_all, begins_with_main, clock_is, accepted_by, image_refused}
use Rattle.p8_build.proofs.Here.{fail_as}
use Rattle.p8_build.proofs.building.accept_by.Goals as goal

pub returns-in_err-accepted-clause-refused : goal.returns-in_err-accepted-clause-refused
returns-in_err-accepted-clause-refused c =
    let files = map named_source_of c.args.files.now in
    let children = c.args.children in
    told c.from_residual.result _ (IfPhaseRefused (IsFirstAt files children)) c.from_residual.ensures.1
    (fail_as (IsFirstBelow files children (length c.args.files.now)) (IsFirstAt files children) c.in_err-accepted.field-0.0 (λ r h. first_at files children (length c.args.files.now) r (sym (length-map c.args.files.now named_source_of)) h)
    (subst (λ (cs : List Children). IfPhaseRefused (IsFirstBelow files cs (length c.args.files.now)) c.in_err-accepted.field-0.0) c.as_slice.ensures c.in_err-accepted.ensures.refused))

pub finish_measured-requires : goal.finish_measured-requires
finish_measured-requires c =
    let files = map named_source_of c.args.files.now in
    let children = c.args.children in
    let fs = c.in_ok-accepted.accepted in
    let l : 0 < length files = omega (arith, length-map c.args.files.now named_source_of, c.requires.first) in
    let h : AreAccepted files children fs = subst (λ (cs : List Children). AreAccepted files cs fs) c.as_slice.ensures c.in_ok-accepted.ensures.accepted in
    subst BeginsWithMain (sym (c.in_ok-objects.ensures ∙ ap (map (object_made files)) c.as_slice-2.ensures ∙ objects_all files children fs c.requires.children.one_each h))
    (begins_with_main files children (map compiled_file fs) l c.requires.children.one_each (compiled_all files children fs h))

pub returns-in_err-built-clause-refused : goal.returns-in_err-built-clause-refused
returns-in_err-built-clause-refused c =
    let files = map named_source_of c.args.files.now in
    let children = c.args.children in
    let fs = c.in_ok-accepted.accepted in
    let objects = c.in_ok-objects.objects in
    let f = c.index-as_slice-0.result in
    let l : 0 < length files = omega (arith, length-map c.args.files.now named_source_of, c.requires.first) in
    let h : AreAccepted files children fs = subst (λ (cs : List Children). AreAccepted files cs fs) c.as_slice.ensures c.in_ok-accepted.ensures.accepted in
    let made : objects ≡ objects_of files children (map compiled_file fs) = c.in_ok-objects.ensures ∙ ap (map (object_made files)) c.as_slice-2.ensures ∙ objects_all files children fs c.requires.children.one_each h in
    let many : 0 < length c.as_slice-3.result.now = omega (arith, ap length c.as_slice-3.ensures, h.count, l) in
    let at : slice_get fs 0 ≡ Some f =
    subst (λ (gs : List AcceptedFile). slice_get gs 0 ≡ Some f) c.as_slice-3.ensures (slice_get_read c.as_slice-3.result.now (length c.as_slice-3.result.now) 0 f refl many c.index-as_slice-0.is) in
    told c.from_residual-in_err-built.result _ (IfPhaseRefused (IsFirstAt files children)) c.from_residual-in_err-built.ensures.1
    (fail_as (IsImageRefusal objects (clock_in f.kinds)) (IsFirstAt files children) c.in_err-built.field-0.0
    (λ r k. image_refused files children (map compiled_file fs) objects (clock_in f.kinds) r l c.requires.children.one_each (compiled_all files children fs h) made (clock_is fs f at) k)
    (subst (λ (g : AcceptedFile). IfPhaseRefused (IsImageRefusal objects (clock_in g.kinds)) c.in_err-built.field-0.0) (sym c.index-as_slice-0.is) c.in_err-built.ensures.refused))

pub returns-clause-accepted : goal.returns-clause-accepted
returns-clause-accepted c =
    let files = map named_source_of c.args.files.now in
    let children = c.args.children in
    let fs = c.in_ok-accepted.accepted in
    let objects = c.in_ok-objects.objects in
    let f = c.index-as_slice-0.result in
    let l : 0 < length files = omega (arith, length-map c.args.files.now named_source_of, c.requires.first) in
    let h : AreAccepted files children fs = subst (λ (cs : List Children). AreAccepted files cs fs) c.as_slice.ensures c.in_ok-accepted.ensures.accepted in
    let many : 0 < length c.as_slice-3.result.now = omega (arith, ap length c.as_slice-3.ensures, h.count, l) in
    let at : slice_get fs 0 ≡ Some f =
    subst (λ (gs : List AcceptedFile). slice_get gs 0 ≡ Some f) c.as_slice-3.ensures (slice_get_read c.as_slice-3.result.now (length c.as_slice-3.result.now) 0 f refl many c.index-as_slice-0.is) in
    accepted_by files (record { children = children; files = fs; built = c.in_ok-built.built }) f objects c.requires.children h at (c.in_ok-objects.ensures ∙ ap (map (object_made files)) c.as_slice-2.ensures)
    (subst (λ (g : AcceptedFile). IsFinished (clock_in g.kinds) objects c.in_ok-built.built) (sym c.index-as_slice-0.is) c.in_ok-built.ensures.built)
