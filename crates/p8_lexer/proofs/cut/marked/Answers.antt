use Rattle.std.proofs.Common.{◌∙◌, get_or}
use Rattle.p8_lexer.proofs.Cuts.{other_class, other_only}
use Rattle.p8_lexer.proofs.cut.marked.Goals as goal

pub symbol-requires-clause-only : goal.symbol-requires-clause-only
symbol-requires-clause-only c =
    let text = c.args.text.now in
    let at = c.at-first.ensures in
    other_only text (other_class (get_or text 0 0) c.requires.letter c.requires.blank c.requires.line_end c.requires.digit (λ e. c.if-first-eq39.false (at ∙ e)) (λ e. c.if-first-eq123.false (at ∙ e)) (λ e. c.if-first-eq34.false (at ∙ e)) (λ e. c.if-first-eq37.false (at ∙ e)) (λ e. c.if-first-eq36.false (at ∙ e)))
