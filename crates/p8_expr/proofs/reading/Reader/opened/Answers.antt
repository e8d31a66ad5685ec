use Rattle.std.proofs.Common.{◌≡◌, None, sym, ap, ◌∙◌, subst}
use Rattle.std.specs.Prelude.{map}
use Rattle.p8_lexer.specs.Words.{capital}
use Rattle.p8_grammar.specs.Lexemes.{string}
use Rattle.p8_grammar.specs.Machine.{grow, entered_all, string_opened, fresh, in_place, loose, state, step}
use Rattle.p8_grammar.specs.Views.{setting_of}
use Rattle.p8_grammar.proofs.Steps.{is_text, opened_step}
use Rattle.std.proofs.lemmas.Result.{IfOk-weaker}
use Rattle.p8_expr.specs.Words.{between_quotes}
use Rattle.p8_expr.specs.Views.{shape_at, shape_of, frames_in}
use Rattle.p8_expr.specs.Cursors.{place_at, lexeme_at}
use Rattle.p8_expr.specs.Lookaheads.{next_place, next_word, next_lexeme, next_text, next_token}
use Rattle.p8_expr.specs.Reading.{state_of, Takes}
use Rattle.p8_expr.proofs.Taking.{not_made, opened_text, text_word, no_text, no_item_word, text_loose}
use Rattle.p8_expr.proofs.Stepping.{word_is, within_here, takes_there, fits_there}
use Rattle.p8_expr.proofs.reading.Reader.opened.Goals as goal

pub returns-in-Not : goal.returns-in-Not
returns-in-Not c =
    let old = c.args.self.now in
    let p = old.form.parts in
    let s = setting_of old.ahead.setting in
    let k = frames_in old.stack in
    let q = next_place old.ahead in
    let t = between_quotes (next_text old.ahead) in
    let is = word_is old.ahead _ c.requires.fits c.in-Str.is in
    let same : grow s (shape_of old.form) q (next_lexeme old.ahead) ≡ grow s (string_opened p.place) q (string t) = λ i. grow s (shape_at (c.requires.stage i) p) q (is i) in
    let none = not_made (grow s (shape_of old.form) q (next_lexeme old.ahead)) old.form c.grow.new.self _ c.in_ok-grown-in-Str.ensures.comes c.in-Not.is in
    ap (λ st. step (state s (shape_at st p) k) (next_token old.ahead)) c.requires.stage
    ∙ opened_text s p.place k q (next_word old.ahead) t is
    ∙ ap (entered_all s k) (sym same ∙ none.0)

pub returns-in_ok-goes-in_default-2 : goal.returns-in_ok-goes-in_default-2
returns-in_ok-goes-in_default-2 c =
    let old = c.args.self.now in
    let p = old.form.parts in
    let s = setting_of old.ahead.setting in
    let k = frames_in old.stack in
    let q = next_place old.ahead in
    let t = between_quotes (next_text old.ahead) in
    let is = word_is old.ahead _ c.requires.fits c.in-Str.is in
    let o = grow s (shape_of old.form) q (next_lexeme old.ahead) in
    let same : o ≡ grow s (string_opened p.place) q (string t) = λ i. grow s (shape_at (c.requires.stage i) p) q (is i) in
    c.in_ok-goes-in_default-2.ensures (state_of old) o old.form c.in_ok-grown-in-Str.ensures.comes
    (ap (λ st. step (state s (shape_at st p) k) (next_token old.ahead)) c.requires.stage
    ∙ opened_text s p.place k q (next_word old.ahead) t is
    ∙ ap (entered_all s k) (sym same))
    (within_here old.ahead (text_word _ t is))

pub returns-in_ok-open-in_default : goal.returns-in_ok-open-in_default
returns-in_ok-open-in_default c =
    let old = c.args.self.now in
    let mid = c.open.new.self in
    let p = old.form.parts in
    let s = setting_of old.ahead.setting in
    let k = frames_in old.stack in
    let to = c.in_ok-open-in_default.ensures in
    let none = ap is_text c.requires.fits.knows ∙ no_text (map capital (next_text old.ahead)) (between_quotes (next_text old.ahead)) old.ahead.lexeme c.in_default.not-Str in
    IfOk-weaker c.operand.result (λ b. Takes (state_of mid) mid.ahead b c.operand.new.self) (λ b. Takes (state_of old) old.ahead b c.operand.new.self)
    (λ b t. takes_there b (state_of old) (state_of mid) old.ahead mid.ahead c.operand.new.self to.3
    (ap (λ st. step (state s (shape_at st p) k) (next_token old.ahead)) c.requires.stage
    ∙ opened_step s p.place k (next_place old.ahead) (next_word old.ahead) (text_loose (next_word old.ahead) none)
    ∙ (λ i. step (state (sym to.0 i) (sym to.1 i) (sym to.2 i)) (next_token old.ahead))) t)
    (c.operand.ensures (subst (λ c. in_place (loose (lexeme_at c.bytes c.tokens c.at)) fresh (frames_in mid.stack) (place_at c.tokens c.at) ≡ None) (sym to.3) (no_item_word (next_lexeme old.ahead) (frames_in mid.stack) (next_place old.ahead) none)))

pub operand-requires-clause-fits : goal.operand-requires-clause-fits
operand-requires-clause-fits c = fits_there c.args.self.now.ahead c.open.new.self.ahead c.in_ok-open-in_default.ensures.3 c.in_ok-open-in_default.ensures.4 c.requires.fits
