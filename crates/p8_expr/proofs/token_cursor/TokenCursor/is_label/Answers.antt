use Rattle.std.proofs.Common.{sym, ap, ◌∙◌}
use Rattle.p8_grammar.specs.Machine.{loose}
use Rattle.p8_expr.specs.Cursors.{lexeme_in}
use Rattle.p8_expr.proofs.Letters.{label_here, no_label_here}
use Rattle.p8_expr.proofs.token_cursor.TokenCursor.is_label.Goals as goal

pub returns-in-Name : goal.returns-in-Name
returns-in-Name c =
    let here = c.args.self.now in
    let there = sym c.token.ensures ∙ c.in-Some.is in
    label_here here.bytes here.tokens here.at c.in-Some.token c.is_of_letters.result _ _ c.lexeme-meaning.result there c.in-Name.is
    (sym (ap (λ o. loose (lexeme_in here.bytes o)) there) ∙ c.lexeme-meaning.ensures) (c.is_of_letters.ensures _ _)

pub returns-in_default-matches : goal.returns-in_default-matches
returns-in_default-matches c =
    let here = c.args.self.now in
    let there = sym c.token.ensures ∙ c.in-Some.is in
    no_label_here here.bytes here.tokens here.at c.in-Some.token _ _ c.lexeme-meaning.result there c.in_default.not-Name
    (sym (ap (λ o. loose (lexeme_in here.bytes o)) there) ∙ c.lexeme-meaning.ensures) c.in_default-matches.not-Name
