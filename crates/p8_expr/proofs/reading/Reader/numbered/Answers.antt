use Rattle.std.proofs.Common.{Some, None, ap, ◌∙◌}
use Rattle.std.specs.Prelude.{map, ◌∷◌}
use Rattle.p8_lexer.specs.Words.{capital}
use Rattle.p8_tree.specs.Expressions.{node}
use Rattle.p8_tree.specs.Views.{form_of}
use Rattle.p8_grammar.specs.Grammar.{infix_of}
use Rattle.p8_grammar.specs.Lexemes.{inside}
use Rattle.p8_grammar.specs.Machine.{first_item, inside_frame, operate}
use Rattle.p8_grammar.specs.Views.{setting_of}
use Rattle.p8_expr.specs.Words.{between_quotes}
use Rattle.p8_expr.specs.Views.{frames_in}
use Rattle.p8_expr.specs.Lookaheads.{next_place, next_text}
use Rattle.p8_expr.proofs.Taking.{no_infix_of, no_rank}
use Rattle.p8_expr.proofs.Stepping.{word_is}
use Rattle.p8_expr.proofs.reading.Reader.numbered.Goals as goal

pub returns-in-Some : goal.returns-in-Some
returns-in-Some c = λ st steps.
    let old = c.args.self.now in
    let s = setting_of old.ahead.setting in
    let is = ap infix_of (word_is old.ahead _ c.requires.fits c.in-Infix.is) ∙ ap (λ r. Some (r, c.in-Infix.operator)) c.in-Some.ensures.0 in
    c.first_operand.ensures st is
    (steps ∙ ap (λ o. operate (inside s) None o (next_place old.ahead) (node old.form.parts.at (form_of c.args.number)) (inside_frame s (first_item old.form.parts.place) ∷ frames_in old.stack)) is)

pub returns-in-None : goal.returns-in-None
returns-in-None c = λ st steps.
    let old = c.args.self.now in
    let s = setting_of old.ahead.setting in
    let e = node old.form.parts.at (form_of c.args.number) in
    let k = inside_frame s (first_item old.form.parts.place) ∷ frames_in old.stack in
    steps ∙ ap (λ o. operate (inside s) None o (next_place old.ahead) e k) (ap infix_of (word_is old.ahead _ c.requires.fits c.in-Infix.is))
    ∙ no_rank (inside s) c.in-Infix.rank c.in-Infix.operator (next_place old.ahead) e k c.in-None.ensures

pub returns-in-Sign : goal.returns-in-Sign
returns-in-Sign c = λ st steps.
    let old = c.args.self.now in
    let s = setting_of old.ahead.setting in
    let is = ap infix_of (word_is old.ahead _ c.requires.fits c.in-Sign.is) in
    c.first_operand-in-Sign.ensures st is
    (steps ∙ ap (λ o. operate (inside s) None o (next_place old.ahead) (node old.form.parts.at (form_of c.args.number)) (inside_frame s (first_item old.form.parts.place) ∷ frames_in old.stack)) is)

pub returns-in_default : goal.returns-in_default
returns-in_default c = λ st steps.
    let old = c.args.self.now in
    let s = setting_of old.ahead.setting in
    let none = ap infix_of c.requires.fits.knows ∙ no_infix_of (map capital (next_text old.ahead)) (between_quotes (next_text old.ahead)) old.ahead.lexeme c.in_default.not-Infix c.in_default.not-Sign in
    steps ∙ ap (λ o. operate (inside s) None o (next_place old.ahead) (node old.form.parts.at (form_of c.args.number)) (inside_frame s (first_item old.form.parts.place) ∷ frames_in old.stack)) none
