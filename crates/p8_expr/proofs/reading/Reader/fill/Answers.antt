use Rattle.std.proofs.Common.{◌<◌, length, sym, ap, ◌∙◌, subst}
use Rattle.std.specs.Prelude.{map}
use Rattle.p8_lexer.specs.Words.{capital}
use Rattle.p8_tree.specs.Views.{tree_of}
use Rattle.p8_grammar.specs.Machine.{entered_all}
use Rattle.p8_grammar.specs.Views.{setting_of, lexeme_of}
use Rattle.p8_grammar.specs.Least.{least}
use Rattle.p8_expr.specs.Words.{between_quotes}
use Rattle.p8_expr.specs.Views.{frames_in, hole_at, closed_by}
use Rattle.p8_expr.specs.Lookaheads.{next_lexeme, next_text}
use Rattle.p8_expr.proofs.Operators.{closed_word}
use Rattle.p8_expr.proofs.Taking.{made_of, not_made}
use Rattle.p8_expr.proofs.Stepping.{within_here, takes_turn, breaks_turn, turned_there, token_there, fits_there}
use Rattle.p8_expr.proofs.HoleRows.{tall_where}
use Rattle.p8_expr.proofs.reading.Reader.fill.Goals as goal

pub returns-in-Not : goal.returns-in-Not
returns-in-Not c = λ st none low steps.
    let old = c.args.self.now in
    let ahead = old.ahead in
    let n = map capital (next_text ahead) in
    let t = between_quotes (next_text ahead) in
    let e = tree_of c.args.tree.value in
    let to = entered_all (setting_of c.args.outer) (frames_in old.stack) in
    let h = hole_at c.args.hole old.form.parts in
    let told = not_made (closed_by (lexeme_of n t ahead.lexeme) h e) old.form c.close.new.self _ (c.in_ok-grown.ensures.comes n t) c.in-Not.is in
    breaks_turn (least st) st ahead old c.at.result c.args.low c.at.ensures c.requires.fits
    (steps ∙ ap (λ y. to (closed_by y h e)) c.requires.fits.knows ∙ ap to told.0) none low

pub returns-in_ok-goes-in_default : goal.returns-in_ok-goes-in_default
returns-in_ok-goes-in_default c = λ st none low steps.
    let old = c.args.self.now in
    let ahead = old.ahead in
    let k = frames_in old.stack in
    let n = map capital (next_text ahead) in
    let t = between_quotes (next_text ahead) in
    let e = tree_of c.args.tree.value in
    let h = hole_at c.args.hole old.form.parts in
    let o = closed_by (lexeme_of n t ahead.lexeme) h e in
    let told = c.in_ok-grown.ensures.comes n t in
    let made = made_of o old.form c.close.new.self _ told c.in_default.not-Not in
    let all = steps ∙ ap (λ y. entered_all (setting_of c.args.outer) k (closed_by y h e)) c.requires.fits.knows in
    let inside = ap (λ x. entered_all (setting_of x) k o) (sym c.stand_in.ensures.2) in
    let here = within_here ahead (closed_word (next_lexeme ahead) (lexeme_of n t ahead.lexeme) h e made.0 c.requires.fits.knows made.1) in
    turned_there (least st) st ahead c.stand_in.new.self c.goes.new.self c.stand_in.ensures.0
    (takes_turn (least st) st c.stand_in.new.self c.goes.new.self
    (c.in_ok-goes-in_default.ensures st o old.form told (token_there st ahead c.stand_in.new.self (entered_all (setting_of c.args.outer) k o) c.stand_in.ensures.0 all ∙ inside)
    (subst (λ c. c.at < length c.tokens) (sym c.stand_in.ensures.0) here)))

pub goes-requires-clause-fits : goal.goes-requires-clause-fits
goes-requires-clause-fits c = fits_there c.args.self.now.ahead c.stand_in.new.self c.stand_in.ensures.0 c.stand_in.ensures.1 c.requires.fits

pub goes-requires-clause-tall : goal.goes-requires-clause-tall
goes-requires-clause-tall c = tall_where _ c.close.new.self c.in_default.not-Not (c.in_ok-grown.ensures.tall c.requires.filled)
