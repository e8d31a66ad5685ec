use Rattle.std.proofs.Common.{◌≡◌, refl, sym, subst, ℕ, ◌+◌, ◌<◌, ◌≤◌, slice_index, arith}
use Rattle.p8_image.specs.Headers.{word_at}
use Rattle.p8_image.specs.Layout.{total, size_of, variables_of, variables_base, image_of}
use Rattle.p8_build.specs.Builds.{objects_of}
use Rattle.p8_map.specs.Projects.{names_of}
use Rattle.p8_opt.specs.Programs.{addresses_of}
use Rattle.p8_legend.specs.ProjectLegends.{Named}
use Rattle.p8_legend.specs.Stands.{IsNameOf}
use Rattle.p8_legend.proofs.RightNames.{AreAll, all-named}
use Rattle.p8_legend.proofs.AllNames.{HasEntry}
use Rattle.p8_legend.proofs.WholeNames.{names-complete}
use Rattle.p8_legend.proofs.OfProject.{inner, code, sized, objects-many, whole, IsWay, begins, goes-on, is-short, labels-rise, in-hub, variables-told}
use Rattle.p8_legend.proofs.name_laws.names_stand_where_the_image_has_them.Goals as goal

pub returns-clause-right : goal.returns-clause-right
returns-clause-right c = λ sources files proper legend is text range among.
    let shown = names_of sources files is.children is.compiled in
    let objects = objects_of files is.children is.compiled in
    let addresses = addresses_of files is.compiled objects in
    let at : ℕ = word_at (image_of is.clock objects) 8 in
    let told : at ≡ variables_base objects = variables-told is.clock objects is.fits in
    let room = in-hub objects is.fits in
    let all = all-named shown objects addresses (inner files is.children is.compiled) (code files is.children is.compiled) (sized files is.children is.compiled proper) at (omega (arith, told, room)) (sym told) refl in
    let here : AreAll (IsNameOf shown objects addresses) (legend.names.ranges, legend.names.texts) = subst (AreAll (IsNameOf shown objects addresses)) (sym is.names) all in
    here.each among.number range text among.range_is among.text_is

pub returns-clause-whole : goal.returns-clause-whole
returns-clause-whole c = λ sources files proper mentioned no_ring legend is text range named told.
    let shown = names_of sources files is.children is.compiled in
    let objects = objects_of files is.children is.compiled in
    let addresses = addresses_of files is.compiled objects in
    let at : ℕ = word_at (image_of is.clock objects) 8 in
    let begin : at ≡ variables_base objects = variables-told is.clock objects is.fits in
    let room = in-hub objects is.fits in
    let many = objects-many files is.children is.compiled is.seen.one_each is.each.count in
    let behind : 16 + total size_of objects ≤ at = omega (arith, begin) in
    let fits : at + slice_index (variables_of objects) 0 < 65536 = omega (arith, begin, room) in
    let entry = names-complete shown objects addresses (inner files is.children is.compiled) (code files is.children is.compiled) (sized files is.children is.compiled proper)
    (whole files is.children is.compiled mentioned many no_ring) (labels-rise sources files is.children is.compiled proper is.each)
    (IsWay files is.children is.compiled mentioned many no_ring) (begins files is.children is.compiled mentioned many no_ring) (goes-on files is.children is.compiled mentioned many no_ring) (is-short files is.children is.compiled mentioned many no_ring)
    at (sym begin) refl behind fits text range named told in
    let here : HasEntry (legend.names.ranges, legend.names.texts) text range = subst (λ (n : Named). HasEntry n text range) (sym is.names) entry in
    record { number = here.number; range_is = here.range_is; text_is = here.text_is }
