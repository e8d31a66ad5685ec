use Rattle.std.proofs.Common.{Some, refl, sym, ap, ◌∙◌, suc}
use Rattle.std.specs.Prelude.{◌∷◌}
use Rattle.p8_tree.specs.Expressions.{node}
use Rattle.p8_tree.specs.Views.{form_of}
use Rattle.p8_grammar.specs.Lexemes.{inside}
use Rattle.p8_grammar.specs.Machine.{first_item, infix_frame, fresh, state, tree_in}
use Rattle.p8_grammar.specs.Views.{setting_of}
use Rattle.p8_grammar.proofs.Settings.{inside_value}
use Rattle.p8_expr.specs.Views.{left_of, frames_in}
use Rattle.p8_expr.specs.Lookaheads.{next_place, next_lexeme}
use Rattle.p8_expr.proofs.Operators.{infix_has_word}
use Rattle.p8_expr.proofs.Taking.{first_infix}
use Rattle.p8_expr.proofs.Stepping.{within_here, takes_from, fits_there}
use Rattle.p8_grammar.specs.Heights.{height}
use Rattle.p8_expr.proofs.reading.Reader.first_operand.Goals as goal

pub returns : goal.returns
returns c = λ st is steps.
    let old = c.args.self.now in
    let mid = c.open.new.self in
    let s = setting_of old.ahead.setting in
    let k = frames_in old.stack in
    let p = next_place old.ahead in
    let e = node old.form.parts.at (form_of c.args.number) in
    let f = first_item old.form.parts.place in
    let to = c.in_ok-open.ensures in
    let all = steps ∙ first_infix (inside s) s f c.args.lower c.args.code p e k (inside_value s) c.requires.rank in
    takes_from st old.ahead mid.ahead c.infix.new.self (λ p. state (setting_of mid.ahead.setting) fresh (infix_frame c.args.lower c.args.code p (left_of c.in_ok-left.left) ∷ frames_in mid.stack)) to.3 (within_here old.ahead (infix_has_word (next_lexeme old.ahead) _ is))
    (all ∙ (λ i. Some (state (sym to.0 i) fresh (infix_frame c.args.lower c.args.code p (sym (c.in_ok-left.ensures.0) i) ∷ sym to.2 i)))) c.in_ok-infix.ensures

pub infix-requires-clause-fits : goal.infix-requires-clause-fits
infix-requires-clause-fits c = fits_there c.args.self.now.ahead c.open.new.self.ahead c.in_ok-open.ensures.3 c.in_ok-open.ensures.4 c.requires.fits

pub infix-requires-clause-high : goal.infix-requires-clause-high
infix-requires-clause-high c =
    let f = c.in_ok-left.ensures in
    f.1 0 refl (ap (λ l. height (tree_in l)) f.0 ∙ ap suc c.requires.low)
