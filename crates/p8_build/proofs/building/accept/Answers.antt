use Rattle.std.proofs.Common.{◌<◌, List, length, map, sym, subst, arith}
use Rattle.std.proofs.lemmas.List.{length-map}
use Rattle.std.proofs.lemmas.Option.{slice_get_within}
use Rattle.p8_tree.specs.declared.projects.ProjectFile.{ProjectFile}
use Rattle.p8_tree.specs.Views.{named_sources_of, named_source_of}
use Rattle.p8_names.specs.Children.{AreChildren}
use Rattle.p8_build.specs.Told.{IsRefusal}
use Rattle.p8_build.specs.Phases.{IsFirstAt}
use Rattle.p8_build.proofs.Lists.{mapped}
use Rattle.p8_build.proofs.Here.{told_refused}
use Rattle.p8_build.proofs.building.accept.Goals as goal

pub returns-in-Err-Refused-clause-refused : goal.returns-in-Err-Refused-clause-refused
returns-in-Err-Refused-clause-refused c =
    let fs = c.as_slice-files.result.now in
    let files = map named_source_of fs in
    let children = c.from_vec-children.result in
    let r = c.in-Err-Refused.refusal in
    let x = c.index-files-refusal.result in
    let first : IsFirstAt files children r = rw c.in-Err-Refused.field-0-is at c.in-Err-Refused.ensures.refused in
    let within : r.file < length fs = omega (arith, slice_get_within files r.file first.file first.stands, length-map fs named_source_of) in
    let seen : AreChildren files children =
    subst (λ (gs : List ProjectFile). AreChildren (map named_source_of gs) children) (sym c.as_slice-files.ensures) (subst (AreChildren (named_sources_of c.args.project.now)) (sym c.from_vec-children.ensures) c.in_ok-children_of.ensures) in
    subst (λ (gs : List ProjectFile). IsRefusal (map named_source_of gs) c.told.result) c.as_slice-files.ensures
    (told_refused files children r (named_source_of x) c.told.result seen first (mapped named_source_of fs r.file x within c.index-files-refusal.is) c.told.ensures)
