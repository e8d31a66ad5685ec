use Rattle.std.proofs.Common.{◌≡◌, sym, subst, List, slice_get, Some, arith}
use Rattle.p8_tree.specs.Projects.{NamedSource}
use Rattle.p8_kinds.specs.declared.children.Children.{Children}
use Rattle.p8_names.specs.Children.{AreChildren}
use Rattle.p8_names.specs.Mentions.{AreDistinct, HaveMentioned}
use Rattle.p8_image.specs.declared.clocks.Clock.{Clock}
use Rattle.p8_meaning.specs.Programs.{Program}
use Rattle.p8_meaning.specs.Lives.{IsInstance}
use Rattle.p8_build.specs.Parts.{AreProper}
use Rattle.p8_build.specs.Files.{CompiledFile}
use Rattle.p8_build.specs.Builds.{AreCompiled, objects_of}
use Rattle.p8_opt.specs.Programs.{addresses_of, own_sources}
use Rattle.p8_opt.proofs.Counting.{element}
use Rattle.p8_opt.proofs.Files.{own-program}
use Rattle.p8_opt.proofs.Images.{lies}
use Rattle.p8_opt.proofs.Instances.{IsProject}
use Rattle.p8_opt.proofs.Own.{own-recoded}
use Rattle.p8_opt.proofs.Placing.{is-at}
use Rattle.p8_opt.proofs.Whole.{begins-main}
use Rattle.p8_legend.proofs.KindedProject.{variable-stands, label-stands}
use Rattle.p8_legend.proofs.OfProject.{objects-many}
use Rattle.p8_legend.proofs.name_laws.names_stand_by_their_kinds.Goals as goal

-- any clock: the law asks of the layout alone
abbrev any : Clock
any = record { mode = 0; frequency = 0 }

abbrev project-of : (files : List NamedSource) (children : List Children) (xs : List CompiledFile) → AreProper files → AreDistinct files → HaveMentioned files → AreChildren files children → AreCompiled files children xs → IsProject files children xs
project-of files children xs proper distinct mentioned seen each =
    record { changed = own_sources files; compiled = own-recoded files children xs proper each; mentioned = mentioned; seen = seen.one_each; children_are = seen; distinct = distinct }

pub returns-clause-instances : goal.returns-clause-instances
returns-clause-instances c = λ files proper some distinct mentioned no_ring children seen xs each fits instance used.
    let all = objects_of files children xs in
    let project = project-of files children xs proper distinct mentioned seen each in
    let main = begins-main files children xs project some in
    let hub = lies any all (c.image_loads.ensures.image any all main fits) (c.image_loads.ensures.header any all main fits) fits in
    let many = objects-many files children xs seen.one_each each.count in
    let top = element all 0 (omega (arith, some, many)) in
    let own : IsInstance _ (addresses_of files xs all) instance = subst (λ (p : Program). IsInstance p (addresses_of files xs all) instance) (sym (own-program files files children xs)) used in
    (is-at files children xs project any (c.parts_stand.ensures any all) hub top.0 top.1 instance own).base_is

pub returns-clause-variables : goal.returns-clause-variables
returns-clause-variables c = λ files proper some distinct mentioned no_ring children seen xs each fits sources beside instance used file file_is method name size offset kind_is.
    let project = project-of files children xs proper distinct mentioned seen each in
    variable-stands sources files children xs beside project no_ring fits instance
    (subst (λ (p : Program). IsInstance p (addresses_of files xs (objects_of files children xs)) instance) (sym (own-program files files children xs)) used)
    file (subst (λ (p : Program). slice_get p instance.file ≡ Some file) (sym (own-program files files children xs)) file_is) method name size offset kind_is

pub returns-clause-labels : goal.returns-clause-labels
returns-clause-labels c = λ files proper some distinct mentioned no_ring children seen xs each fits sources beside instance used file file_is method name size kind_is.
    let all = objects_of files children xs in
    let project = project-of files children xs proper distinct mentioned seen each in
    let main = begins-main files children xs project some in
    let hub = lies any all (c.image_loads.ensures.image any all main fits) (c.image_loads.ensures.header any all main fits) fits in
    let many = objects-many files children xs seen.one_each each.count in
    let top = element all 0 (omega (arith, some, many)) in
    label-stands sources files children xs beside project any (c.parts_stand.ensures any all) hub top.0 top.1 instance
    (subst (λ (p : Program). IsInstance p (addresses_of files xs all) instance) (sym (own-program files files children xs)) used)
    file (subst (λ (p : Program). slice_get p instance.file ≡ Some file) (sym (own-program files files children xs)) file_is) method name size kind_is
