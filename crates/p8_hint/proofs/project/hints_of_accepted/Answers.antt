use Rattle.std.proofs.Common.{◌≡◌, map}
use Rattle.std.proofs.lemmas.Result.{IfOk-weaker}
use Rattle.p8_tree.specs.Views.{named_source_of}
use Rattle.p8_hint.specs.Hints.{joined, or_nothing}
use Rattle.p8_hint.specs.Projects.{IsHintsOf}
use Rattle.p8_hint.proofs.AcceptedFiles.{hints-told}
use Rattle.p8_hint.proofs.project.hints_of_accepted.Goals as goal

pub returns : goal.returns
returns c =
    let files = map named_source_of c.args.files.now in
    let shown = c.as_slice.result.now in
    IfOk-weaker c.whole_text.result (λ text. text.items ≡ or_nothing (joined shown)) (λ text. IsHintsOf c.args.sources.now files text.items)
    (λ text told. hints-told c.args.sources.now files c.args.accepted.now c.requires.accepted c.in_ok-texts.texts shown c.in_ok-texts.ensures c.as_slice.ensures text.items told)
    c.whole_text.ensures
