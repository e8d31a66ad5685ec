use Rattle.std.proofs.Common.{◌≡◌, ◌∙◌, ap, sym, true, false, Some, slice_get, map}
use Rattle.std.proofs.lemmas.Option.{slice_get-get_or}
use Rattle.p8_lexer.specs.Words.{capital, same}
use Rattle.p8_lexer.proofs.TableLemmas.{row_word}
use Rattle.p8_lexer.proofs.lookup.word_of_row.Goals as goal

pub returns-then-is_same : goal.returns-then-is_same
returns-then-is_same c =
    let row = c.in_ok-row.row.now in
    let at : slice_get c.args.rows.now c.args.number ≡ Some row =
    ap (slice_get c.args.rows.now) (sym c.from.ensures) ∙ slice_get-get_or c.args.rows.now c.from.result row c.in_ok-row.ensures.lookup.3.0 ∙ ap Some (sym (c.in_ok-row.ensures.lookup.3.1 row)) in
    sym (row_word c.args.rows.now c.args.number row (map capital c.args.text.now) true at (sym c.if-is_same.true ∙ c.is_same.ensures ∙ ap (λ s. same s (map capital c.args.text.now)) c.as_bytes.ensures.value))

pub returns-else-is_same : goal.returns-else-is_same
returns-else-is_same c =
    let row = c.in_ok-row.row.now in
    let at : slice_get c.args.rows.now c.args.number ≡ Some row =
    ap (slice_get c.args.rows.now) (sym c.from.ensures) ∙ slice_get-get_or c.args.rows.now c.from.result row c.in_ok-row.ensures.lookup.3.0 ∙ ap Some (sym (c.in_ok-row.ensures.lookup.3.1 row)) in
    sym (row_word c.args.rows.now c.args.number row (map capital c.args.text.now) false at (sym c.if-is_same.false ∙ c.is_same.ensures ∙ ap (λ s. same s (map capital c.args.text.now)) c.as_bytes.ensures.value))
