use Rattle.std.proofs.Common.{sym, ap, ◌∙◌, subst}
use Rattle.std.specs.Prelude.{IfOk, min}
use Rattle.p8_grammar.specs.Machine.{grow, entered_all, state}
use Rattle.p8_grammar.specs.Least.{least}
use Rattle.p8_grammar.specs.Views.{setting_of}
use Rattle.p8_expr.specs.Views.{shape_of, frames_in, IsTallAs}
use Rattle.p8_expr.specs.Lookaheads.{next_place, next_word, next_lexeme}
use Rattle.p8_expr.specs.Reading.{state_of, is_inner, Turns}
use Rattle.p8_expr.proofs.Taking.{inner_takes, made_of, not_made}
use Rattle.p8_expr.proofs.Places.{grown_word}
use Rattle.p8_expr.proofs.Stepping.{within_here, takes_turn}
use Rattle.p8_expr.proofs.reading.Reader.word.Goals as goal

pub returns-in_ok-goes-in_default : goal.returns-in_ok-goes-in_default
returns-in_ok-goes-in_default c =
    let old = c.args.self.now in
    let s = setting_of old.ahead.setting in
    let sh = shape_of old.form in
    let k = frames_in old.stack in
    let p = next_place old.ahead in
    let y = next_lexeme old.ahead in
    let o = grow s sh p y in
    let made = made_of o old.form c.grow.new.self _ c.in_ok-grown.ensures.comes c.in_default.not-Not in
    let steps = inner_takes s sh k p (next_word old.ahead) made.0 c.requires.inner made.1 ∙ sym (ap (entered_all s k) made.1) in
    takes_turn (least (state_of old)) (state_of old) old.ahead c.goes.new.self
    (c.in_ok-goes-in_default.ensures (state_of old) o old.form c.in_ok-grown.ensures.comes steps (within_here old.ahead (grown_word s sh p y made.0 made.1)))

pub beyond-requires-clause-tall : goal.beyond-requires-clause-tall
beyond-requires-clause-tall c = subst (λ g. IsTallAs g c.grow.new.self) c.in-Not.is (c.in_ok-grown.ensures.tall c.requires.tall)

pub beyond-requires-clause-inner : goal.beyond-requires-clause-inner
beyond-requires-clause-inner c =
    let old = c.args.self.now in
    let o = grow (setting_of old.ahead.setting) (shape_of old.form) (next_place old.ahead) (next_lexeme old.ahead) in
    ap is_inner (not_made o old.form c.grow.new.self _ c.in_ok-grown.ensures.comes c.in-Not.is).1 ∙ c.requires.inner

pub beyond-requires-clause-low : goal.beyond-requires-clause-low
beyond-requires-clause-low c =
    let old = c.args.self.now in
    let o = grow (setting_of old.ahead.setting) (shape_of old.form) (next_place old.ahead) (next_lexeme old.ahead) in
    let same = (not_made o old.form c.grow.new.self _ c.in_ok-grown.ensures.comes c.in-Not.is).1 in
    c.least-low.ensures ∙ ap (λ sh. min 65 (least (state (setting_of old.ahead.setting) sh (frames_in old.stack)))) (sym same)

pub beyond-requires-clause-stuck : goal.beyond-requires-clause-stuck
beyond-requires-clause-stuck c =
    let old = c.args.self.now in
    let s = setting_of old.ahead.setting in
    let o = grow s (shape_of old.form) (next_place old.ahead) (next_lexeme old.ahead) in
    let told = not_made o old.form c.grow.new.self _ c.in_ok-grown.ensures.comes c.in-Not.is in
    ap (λ sh. grow s sh (next_place old.ahead) (next_lexeme old.ahead)) told.1 ∙ told.0

pub returns-in-Not : goal.returns-in-Not
returns-in-Not c =
    let old = c.args.self.now in
    let s = setting_of old.ahead.setting in
    let k = frames_in old.stack in
    let o = grow s (shape_of old.form) (next_place old.ahead) (next_lexeme old.ahead) in
    let same = (not_made o old.form c.grow.new.self _ c.in_ok-grown.ensures.comes c.in-Not.is).1 in
    subst (λ sh. IfOk c.beyond.result (λ r. Turns (least (state s sh k)) (state s sh k) old.ahead r c.beyond.new.self)) same c.beyond.ensures
