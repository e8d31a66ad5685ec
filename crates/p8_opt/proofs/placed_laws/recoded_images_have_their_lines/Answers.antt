use Rattle.p8_build.specs.Builds.{objects_of}
use Rattle.p8_opt.proofs.Images.{lies}
use Rattle.p8_opt.proofs.Instances.{IsProject}
use Rattle.p8_opt.proofs.RoomsGlobals.{names-have-room}
use Rattle.p8_opt.proofs.Labelled.{label-has-room}
use Rattle.p8_opt.proofs.Whole.{world-of, begins-main}
use Rattle.p8_opt.proofs.placed_laws.recoded_images_have_their_lines.Goals as goal

pub returns : goal.returns
returns c = λ files changed children xs clock proper some distinct mentioned no_ring seen compiled fits w memory first.
    let project : IsProject files children xs = record { changed = changed; compiled = compiled; mentioned = mentioned; seen = seen.one_each; children_are = seen; distinct = distinct } in
    let main = begins-main files children xs project some in
    let image = c.image_loads.ensures.image clock (objects_of files children xs) main fits in
    let header = c.image_loads.ensures.header clock (objects_of files children xs) main fits in
    let hub = lies clock (objects_of files children xs) image header fits in
    let labels = label-has-room files children xs project proper clock (c.parts_stand.ensures clock (objects_of files children xs)) hub in
    let right = names-have-room files children xs project no_ring fits (λ i file seen x there k m at name size is. labels i file seen x there k m name) in
    world-of files children xs project proper some clock (c.parts_stand.ensures clock (objects_of files children xs)) image header hub right w memory first
