use Rattle.std.proofs.Common.{◌≡◌, ◌<◌, List, length, map, slice_get, Some, refl, ap, ap₂, sym, ◌∙◌, subst, arith}
use Rattle.std.proofs.lemmas.List.{length-map}
use Rattle.std.proofs.lemmas.Option.{slice_get_read}
use Rattle.p8_tree.specs.declared.projects.ProjectFile.{ProjectFile}
use Rattle.p8_tree.specs.Views.{named_source_of}
use Rattle.p8_tree.specs.Faults.{IsFirstFault, IfRefused}
use Rattle.p8_build.specs.declared.accepting.AcceptedFile.{AcceptedFile}
use Rattle.p8_build.specs.Accepted.{IsFinished}
use Rattle.p8_build.specs.Builds.{IsImageFault}
use Rattle.p8_build.specs.Phases.{clock_in}
use Rattle.p8_opt.specs.Steps.{AreAcceptedFiles, AreAllShort, objects_in}
use Rattle.p8_opt.proofs.Wholes.{accepted-many, accepted-files, begins-with-main, never-refused, built-to, shortened}
use Rattle.p8_opt.proofs.building.shorten.Goals as goal

some-file : (files : List ProjectFile) → 0 < length files → 0 < length (map named_source_of files)
some-file files some = let count = length-map files named_source_of in omega (arith, some, count)

pub codes_of_all-requires : goal.codes_of_all-requires
codes_of_all-requires c =
    let files = map named_source_of c.args.files.now in
    subst AreAcceptedFiles (sym c.as_slice-all.ensures) (accepted-files files c.args.accepted.now (some-file c.args.files.now c.requires.some) c.requires.proper c.requires.accepted)

pub objects_with-requires-clause-beside : goal.objects_with-requires-clause-beside
objects_with-requires-clause-beside c = ap length c.as_slice.ensures ∙ c.in_ok-codes.ensures.count

pub finish-requires : goal.finish-requires
finish-requires c =
    let files = map named_source_of c.args.files.now in
    let codes = c.in_ok-codes.codes in
    let objects = c.in_ok-objects.objects in
    begins-with-main files c.args.accepted.now (some-file c.args.files.now c.requires.some) c.requires.proper c.requires.accepted
    codes (c.in_ok-codes.ensures.count ∙ ap length c.as_slice-all.ensures)
    (subst (λ (fs : List AcceptedFile). AreAllShort fs codes) c.as_slice-all.ensures c.in_ok-codes.ensures.codes)
    objects (c.in_ok-objects.ensures ∙ ap₂ (objects_in files) c.as_slice-all.ensures c.as_slice.ensures)

pub unreachable-requires : goal.unreachable-requires
unreachable-requires c =
    let a = c.args.accepted.now in
    let files = map named_source_of c.args.files.now in
    let codes = c.in_ok-codes.codes in
    let objects = c.in_ok-objects.objects in
    let f = c.index-all-0.result in
    let some = c.requires.some in
    let count = length-map c.args.files.now named_source_of in
    let many = accepted-many files a (some-file c.args.files.now c.requires.some) c.requires.proper c.requires.accepted in
    let long : length c.as_slice-all.result.now ≡ length a.files = ap length c.as_slice-all.ensures in
    let at : slice_get a.files 0 ≡ Some f =
    subst (λ (fs : List AcceptedFile). slice_get fs 0 ≡ Some f) c.as_slice-all.ensures (slice_get_read c.as_slice-all.result.now (length c.as_slice-all.result.now) 0 f refl (omega (arith, some, count, many, long)) c.index-all-0.is) in
    let refused : IfRefused (IsFirstFault (IsImageFault objects (clock_in f.kinds))) c.in-Err-Refused.field-0 =
    subst (λ (g : AcceptedFile). IfRefused (IsFirstFault (IsImageFault objects (clock_in g.kinds))) c.in-Err-Refused.field-0) (sym c.index-all-0.is) c.in-Err-Refused.ensures.refused in
    let first : IsFirstFault (IsImageFault objects (clock_in f.kinds)) c.in-Err-Refused.field-0-0 = subst (IfRefused (IsFirstFault (IsImageFault objects (clock_in f.kinds)))) c.in-Err-Refused.field-0-is refused in
    never-refused files a (some-file c.args.files.now c.requires.some) c.requires.proper c.requires.accepted
    codes (c.in_ok-codes.ensures.count ∙ long)
    (subst (λ (fs : List AcceptedFile). AreAllShort fs codes) c.as_slice-all.ensures c.in_ok-codes.ensures.codes)
    objects (c.in_ok-objects.ensures ∙ ap₂ (objects_in files) c.as_slice-all.ensures c.as_slice.ensures)
    f at c.in-Err-Refused.field-0-0 first.holds

pub returns-in-Ok-clause-built : goal.returns-in-Ok-clause-built
returns-in-Ok-clause-built c =
    let a = c.args.accepted.now in
    let files = map named_source_of c.args.files.now in
    let codes = c.in_ok-codes.codes in
    let objects = c.in_ok-objects.objects in
    let f = c.index-all-0.result in
    let some = c.requires.some in
    let count = length-map c.args.files.now named_source_of in
    let many = accepted-many files a (some-file c.args.files.now c.requires.some) c.requires.proper c.requires.accepted in
    let long : length c.as_slice-all.result.now ≡ length a.files = ap length c.as_slice-all.ensures in
    let at : slice_get a.files 0 ≡ Some f =
    subst (λ (fs : List AcceptedFile). slice_get fs 0 ≡ Some f) c.as_slice-all.ensures (slice_get_read c.as_slice-all.result.now (length c.as_slice-all.result.now) 0 f refl (omega (arith, some, count, many, long)) c.index-all-0.is) in
    built-to files a (some-file c.args.files.now c.requires.some) c.requires.proper c.requires.accepted
    codes (c.in_ok-codes.ensures.count ∙ long)
    (subst (λ (fs : List AcceptedFile). AreAllShort fs codes) c.as_slice-all.ensures c.in_ok-codes.ensures.codes)
    objects (c.in_ok-objects.ensures ∙ ap₂ (objects_in files) c.as_slice-all.ensures c.as_slice.ensures)
    f c.in-Ok.built at (subst (λ (g : AcceptedFile). IsFinished (clock_in g.kinds) objects c.in-Ok.built) (sym c.index-all-0.is) c.in-Ok.ensures.built)

pub returns-in-Ok-clause-codes : goal.returns-in-Ok-clause-codes
returns-in-Ok-clause-codes c =
    let files = map named_source_of c.args.files.now in
    let codes = c.in_ok-codes.codes in
    let objects = c.in_ok-objects.objects in
    shortened files c.args.accepted.now (some-file c.args.files.now c.requires.some) c.requires.proper c.requires.accepted
    codes (c.in_ok-codes.ensures.count ∙ ap length c.as_slice-all.ensures)
    (subst (λ (fs : List AcceptedFile). AreAllShort fs codes) c.as_slice-all.ensures c.in_ok-codes.ensures.codes)
    objects (c.in_ok-objects.ensures ∙ ap₂ (objects_in files) c.as_slice-all.ensures c.as_slice.ensures)
    c.in-Ok.built c.in-Ok.ensures.built.objects_are
