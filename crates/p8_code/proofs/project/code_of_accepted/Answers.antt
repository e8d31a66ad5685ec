use Rattle.std.proofs.Common.{◌≡◌, ◌∙◌, ap, length, [], map, sym}
use Rattle.std.proofs.lemmas.List.{length-map}
use Rattle.std.proofs.lemmas.Result.{IfOk-weaker}
use Rattle.p8_tree.specs.Views.{named_source_of}
use Rattle.p8_code.specs.Accepting.{codes_by}
use Rattle.p8_code.specs.Listing.{code_of}
use Rattle.p8_code.specs.Projects.{IsCodeOf}
use Rattle.p8_code.proofs.AcceptedCodes.{many, as-many-names, as-many-objects, code-told}
use Rattle.p8_code.proofs.project.code_of_accepted.Goals as goal

pub code_of_parts-requires-clause-objects : goal.code_of_parts-requires-clause-objects
code_of_parts-requires-clause-objects c =
    let files = map named_source_of c.args.files.now in
    let a = c.args.accepted.now in
    let beside = c.requires.beside ∙ sym (length-map c.args.files.now named_source_of) in
    ap length c.as_slice-2.ensures ∙ as-many-objects c.args.sources.now files a c.requires.accepted beside
    ∙ sym (ap length (c.as_slice.ensures ∙ c.in_ok-names.ensures) ∙ as-many-names c.args.sources.now files a c.requires.accepted beside)

pub code_of_parts-requires-clause-sources : goal.code_of_parts-requires-clause-sources
code_of_parts-requires-clause-sources c =
    let files = map named_source_of c.args.files.now in
    let beside = c.requires.beside ∙ sym (length-map c.args.files.now named_source_of) in
    beside ∙ sym (ap length (c.as_slice.ensures ∙ c.in_ok-names.ensures) ∙ as-many-names c.args.sources.now files c.args.accepted.now c.requires.accepted beside)

pub code_of_parts-requires-clause-accepted : goal.code_of_parts-requires-clause-accepted
code_of_parts-requires-clause-accepted c =
    let files = map named_source_of c.args.files.now in
    let a = c.args.accepted.now in
    let beside = c.requires.beside ∙ sym (length-map c.args.files.now named_source_of) in
    ap length c.as_slice-3.ensures ∙ many c.args.sources.now files a c.requires.accepted beside
    ∙ sym (ap length (c.as_slice.ensures ∙ c.in_ok-names.ensures) ∙ as-many-names c.args.sources.now files a c.requires.accepted beside)

pub returns : goal.returns
returns c =
    let files = map named_source_of c.args.files.now in
    let shown = c.as_slice.result.now in
    let objects = c.as_slice-2.result.now in
    let found = c.as_slice-3.result.now in
    IfOk-weaker c.code_of_parts.result (λ text. text.items ≡ code_of shown objects (codes_by c.args.sources.now found [])) (λ text. IsCodeOf c.args.sources.now files text.items)
    (λ text told. code-told c.args.sources.now files c.args.accepted.now c.requires.accepted (c.requires.beside ∙ sym (length-map c.args.files.now named_source_of))
    shown (c.as_slice.ensures ∙ c.in_ok-names.ensures) found c.as_slice-3.ensures objects text.items c.as_slice-2.ensures told)
    c.code_of_parts.ensures
