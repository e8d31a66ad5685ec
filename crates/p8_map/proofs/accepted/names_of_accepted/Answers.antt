use Rattle.std.proofs.Common.{◌≡◌, ◌∙◌, List, ap, length, map, sym}
use Rattle.std.proofs.lemmas.List.{length-map}
use Rattle.std.proofs.lemmas.Result.{IfOk-weaker}
use Rattle.p8_tree.specs.Views.{named_source_of}
use Rattle.p8_build.specs.Accepted.{compiled_files}
use Rattle.p8_map.specs.declared.names.FileNames.{FileNames}
use Rattle.p8_map.specs.Accepting.{AreNamesBy}
use Rattle.p8_map.specs.Projects.{names_of}
use Rattle.p8_map.proofs.AcceptedFiles.{accepted-many, names-told}
use Rattle.p8_map.proofs.accepted.names_of_accepted.Goals as goal

pub names_of_all-requires-clause-accepted : goal.names_of_all-requires-clause-accepted
names_of_all-requires-clause-accepted c =
    ap length c.as_slice.ensures ∙ accepted-many (map named_source_of c.args.files.now) c.args.accepted.now c.requires.accepted ∙ length-map c.args.files.now named_source_of

pub returns : goal.returns
returns c =
    let files = map named_source_of c.args.files.now in
    let sources = c.args.sources.now in
    let a = c.args.accepted.now in
    let found = c.as_slice.result.now in
    IfOk-weaker c.names_of_all.result (AreNamesBy sources files found) (λ (names : List FileNames). names ≡ names_of sources files a.children (compiled_files a))
    (names-told sources files a c.requires.accepted (c.requires.beside ∙ sym (length-map c.args.files.now named_source_of)) found c.as_slice.ensures)
    c.names_of_all.ensures
