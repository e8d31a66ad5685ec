use Rattle.std.proofs.Common.{◌∙◌, ap, ap₂, sym}
use Rattle.std.specs.Prelude.{map}
use Rattle.p8_tree.specs.declared.projects.ProjectFile.{ProjectFile}
use Rattle.p8_image.specs.Listing.{listing_of}
use Rattle.p8_inputs.proofs.Building.{same-names}
use Rattle.p8_inputs.proofs.sources.listing_of_project.Goals as goal

pub returns-clause-text : goal.returns-clause-text
returns-clause-text c =
    let built = c.in-Ok.ensures.built in
    let names = c.as_slice-2.ensures ∙ c.in_ok-names.ensures ∙ ap (map (λ (file : ProjectFile). file.name)) c.as_slice.ensures ∙ sym (same-names c.args.gathered.now.project.files) in
    (built.0, c.in-Ok.built.objects, built.1, c.in_ok-text.ensures ∙ ap₂ listing_of names c.as_slice-3.ensures)
