use Rattle.std.proofs.Common.{◌∙◌, List, map, subst, sym}
use Rattle.std.proofs.lemmas.List.{length-map}
use Rattle.std.proofs.lemmas.Result.{IfOk-weaker}
use Rattle.p8_tree.specs.Views.{named_source_of}
use Rattle.p8_build.specs.declared.accepting.AcceptedFile.{AcceptedFile}
use Rattle.p8_hint.specs.Accepting.{AreReady}
use Rattle.p8_hint.proofs.AcceptedFiles.{ready, texts-told}
use Rattle.p8_hint.proofs.accepted.texts_of_accepted.Goals as goal

pub texts_of_all-requires-clause-ready : goal.texts_of_all-requires-clause-ready
texts_of_all-requires-clause-ready c =
    subst (λ (xs : List AcceptedFile). AreReady xs) (sym c.as_slice.ensures) (ready (map named_source_of c.args.files.now) c.args.accepted.now c.requires.accepted)

pub returns : goal.returns
returns c =
    let files = map named_source_of c.args.files.now in
    IfOk-weaker c.texts_of_all.result _ _
    (λ texts by. texts-told c.args.sources.now files c.args.accepted.now c.requires.accepted (c.requires.beside ∙ sym (length-map c.args.files.now named_source_of)) c.as_slice.result.now c.as_slice.ensures texts by)
    c.texts_of_all.ensures
