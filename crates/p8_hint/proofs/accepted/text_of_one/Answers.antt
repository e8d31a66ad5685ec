use Rattle.std.proofs.Common.{◌≡◌, ◌∙◌, ℕ, ap}
use Rattle.std.specs.List.{flat_map}
use Rattle.std.proofs.lemmas.Result.{IfOk-weaker}
use Rattle.p8_tree.specs.Views.{named_source_of}
use Rattle.p8_fold.specs.ConstantEntries.{setting_of}
use Rattle.p8_constants.specs.Standing.{items_of}
use Rattle.p8_explain.specs.Explaining.{line_of}
use Rattle.p8_hint.specs.declared.hint.Hint.{Hint}
use Rattle.p8_hint.specs.Rules.{hints_in}
use Rattle.p8_hint.specs.FileFacts.{facts_by}
use Rattle.p8_hint.specs.Hints.{text_of, text_with}
use Rattle.p8_hint.specs.Shown.{shown_line}
use Rattle.p8_hint.specs.Tables.{facts_of}
use Rattle.p8_hint.specs.Accepting.{text_by}
use Rattle.p8_hint.proofs.accepted.text_of_one.Goals as goal

pub returns : goal.returns
returns c =
    let name = c.args.file.now.name in
    let bytes = c.args.bytes.now in
    let x = c.args.accepted.now in
    let s = setting_of x.tables.consts in
    let xs = items_of c.as_slice-items.result.now in
    let shown : (line : ℕ) → shown_line c.in_ok-lines.lines line ≡ line_of bytes line = λ line. c.in_ok-lines.ensures line ∙ ap (λ b. line_of b line) c.as_slice-3.ensures in
    let facts : facts_of c.in_ok-facts.facts ≡ facts_by x.codes s xs = c.in_ok-facts.ensures ∙ ap (λ codes. facts_by codes s xs) c.as_slice-2.ensures in
    let hints = c.deref.ensures.value ∙ c.in_ok-hints.ensures ∙ ap (λ f. hints_in f xs) facts in
    IfOk-weaker c.text_of_hints.result (λ text. text ≡ flat_map (λ h. text_with name (shown_line c.in_ok-lines.lines h.place.line) h) c.deref.result.now) (λ text. text ≡ text_by bytes (named_source_of c.args.file.now) x)
    (λ text told.
    told
    ∙ ap (λ f. flat_map f c.deref.result.now) (λ i. λ (h : Hint). text_with name (shown h.place.line i) h)
    ∙ ap (flat_map (text_of name bytes)) hints
    ∙ ap (λ ys. flat_map (text_of name bytes) (hints_in (facts_by x.codes s (items_of ys)) (items_of ys))) c.as_slice-items.ensures)
    c.text_of_hints.ensures
