use Rattle.std.proofs.Common.{◌≡◌, ◌∙◌, map}
use Rattle.std.proofs.lemmas.Result.{IfOk-weaker}
use Rattle.p8_tree.specs.Views.{named_source_of}
use Rattle.p8_map.specs.Map.{map_of}
use Rattle.p8_map.specs.Projects.{IsMapOf}
use Rattle.p8_map.proofs.AcceptedFiles.{map-told}
use Rattle.p8_map.proofs.project.map_of_accepted.Goals as goal

pub returns : goal.returns
returns c =
    let files = map named_source_of c.args.files.now in
    let image = c.bytes.result.now in
    let shown = c.as_slice.result.now in
    let objects = c.as_slice-2.result.now in
    IfOk-weaker c.map_text.result (λ text. text.items ≡ map_of image shown objects) (λ text. IsMapOf c.args.sources.now files text.items)
    (λ text told. map-told c.args.sources.now files c.args.accepted.now c.requires.accepted shown (c.as_slice.ensures ∙ c.in_ok-names.ensures)
    image c.bytes.ensures.bytes objects c.as_slice-2.ensures text.items told)
    c.map_text.ensures
