use Rattle.std.proofs.Common.{length, ap, ◌∙◌, sym}
use Rattle.p8_expr.specs.Words.{between_quotes}
use Rattle.p8_lines.specs.Stopping.{next}
use Rattle.p8_lines.proofs.Targets.{word_here}
use Rattle.p8_lines.proofs.Pieces.{text_here}
use Rattle.p8_lines.proofs.reading.target.Goals as goal

pub returns : goal.returns
returns c =
    let here = c.args.here.now in
    c.first_target.ensures (next here) (sym (c.word.ensures ∙ word_here here)) (sym (c.quoted_length.ensures ∙ ap (λ t. length (between_quotes t)) (text_here here)))
