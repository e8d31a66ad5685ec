use Rattle.std.proofs.Common.{◌≡◌, ◌∙◌, refl, sym, ap, ℕ, List, ◌++◌, append_assoc, arith}
use Rattle.std.specs.List.{flat_map}
use Rattle.p8_image.specs.Headers.{word_at}
use Rattle.p8_image.specs.Layout.{variables_base, image_of}
use Rattle.p8_build.specs.Builds.{objects_of}
use Rattle.p8_map.specs.Map.{header_lines, memory_lines, objects_lines, instance_lines, bases_from, instances_from}
use Rattle.p8_map.specs.Projects.{names_of}
use Rattle.p8_opt.specs.Programs.{addresses_of}
use Rattle.p8_legend.proofs.MapLines.{map-made}
use Rattle.p8_legend.proofs.OfProject.{inner, code, sized, in-hub, variables-told}
use Rattle.p8_legend.proofs.name_laws.maps_tell_where_the_image_has_it.Goals as goal

pub returns : goal.returns
returns c = λ sources files proper text is.
    let shown = names_of sources files is.children is.compiled in
    let objects = objects_of files is.children is.compiled in
    let image : List ℕ = image_of is.clock objects in
    let at : ℕ = word_at image 8 in
    let told : at ≡ variables_base objects = variables-told is.clock objects is.fits in
    let room = in-hub objects is.fits in
    let first : List ℕ = objects_lines shown 16 shown objects in
    let second : List ℕ = flat_map (instance_lines shown objects (bases_from 16 objects)) (instances_from at shown objects) in
    record {
      lines = first ++ second;
      made = map-made shown objects (addresses_of files is.compiled objects) (inner files is.children is.compiled) (code files is.children is.compiled) (sized files is.children is.compiled proper) at (omega (arith, told, room)) (sym told) refl;
      is = is.is ∙ ap (λ (xs : List ℕ). xs ++ memory_lines (word_at image 10) (word_at image 14)) (append_assoc (header_lines image) first second);
    }
