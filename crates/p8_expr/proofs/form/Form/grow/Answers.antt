use Rattle.std.proofs.Common.{sym, ap, ◌∙◌}
use Rattle.std.specs.Prelude.{map}
use Rattle.p8_lexer.specs.Words.{capital}
use Rattle.p8_grammar.specs.Lexemes.{name, method_result, changes}
use Rattle.p8_grammar.specs.Machine.{grow, first}
use Rattle.p8_grammar.specs.Views.{setting_of, lexeme_of}
use Rattle.p8_expr.specs.Words.{between_quotes}
use Rattle.p8_expr.specs.Lookaheads.{next_place, next_lexeme, next_text}
use Rattle.p8_expr.specs.Views.{shape_of}
use Rattle.p8_expr.proofs.Stepping.{word_is}
use Rattle.p8_expr.proofs.FormRows.{grown_as, grown_same, other_left, first_grows}
use Rattle.p8_expr.proofs.form.Form.grow.Goals as goal

pub returns-in_ok-name-in-Name-clause-comes : goal.returns-in_ok-name-in-Name-clause-comes
returns-in_ok-name-in-Name-clause-comes c =
    let ahead = c.args.ahead.now in
    let s = setting_of ahead.setting in
    let n = c.in_ok-name-in-Name.name in
    grown_as c.on_name.result s c.args.self.now c.on_name.new.self c.place-place.result (next_place ahead) (name n) (next_lexeme ahead) c.place-place.ensures
    (word_is ahead _ c.requires.fits c.in-Name.is ∙ ap name (sym c.in_ok-name-in-Name.ensures)) (c.on_name.ensures.comes s)

pub returns-in-MethodResult-clause-comes : goal.returns-in-MethodResult-clause-comes
returns-in-MethodResult-clause-comes c =
    let ahead = c.args.ahead.now in
    let s = setting_of ahead.setting in
    grown_as c.on_result.result s c.args.self.now c.on_result.new.self c.place-place.result (next_place ahead) method_result (next_lexeme ahead) c.place-place.ensures
    (word_is ahead _ c.requires.fits c.in-MethodResult.is) (c.on_result.ensures.comes s)

pub returns-in-Changes-clause-comes : goal.returns-in-Changes-clause-comes
returns-in-Changes-clause-comes c =
    let ahead = c.args.ahead.now in
    let s = setting_of ahead.setting in
    grown_as c.on_change.result s c.args.self.now c.on_change.new.self c.place-place.result (next_place ahead) (changes c.in-Changes.before c.in-Changes.after) (next_lexeme ahead) c.place-place.ensures
    (word_is ahead _ c.requires.fits c.in-Changes.is) (c.on_change.ensures.comes s)

pub returns-then-is_fresh-clause-comes : goal.returns-then-is_fresh-clause-comes
returns-then-is_fresh-clause-comes c =
    let ahead = c.args.ahead.now in
    let s = setting_of ahead.setting in
    let d = c.in_default in
    let n = map capital (next_text ahead) in
    let t = between_quotes (next_text ahead) in
    let other = other_left ahead.lexeme d.not-Name d.not-MethodResult d.not-Str d.not-Mark d.not-Size d.not-Register d.not-Changes in
    grown_same c.first.result (grow s (shape_of c.args.self.now) (next_place ahead) (next_lexeme ahead)) (first s c.place-place.result (lexeme_of n t ahead.lexeme)) c.args.self.now c.first.new.self
    (first_grows s (shape_of c.args.self.now) (next_place ahead) n t ahead.lexeme (next_lexeme ahead) (c.is_fresh.ensures.0 c.if-is_fresh.true) c.requires.fits.knows other
    ∙ ap (λ p. first s p (lexeme_of n t ahead.lexeme)) (sym c.place-place.ensures))
    (c.first.ensures.comes n t other)
