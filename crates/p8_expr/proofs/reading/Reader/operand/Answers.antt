use Rattle.std.proofs.Common.{sym, ap, ◌∙◌, subst}
use Rattle.p8_grammar.specs.Machine.{fresh, grow, entered_all, state, step}
use Rattle.p8_grammar.specs.Views.{setting_of}
use Rattle.p8_expr.specs.Views.{shape_of, frames_in, IsTallAs}
use Rattle.p8_expr.specs.Lookaheads.{next_place, next_word, next_lexeme, next_token}
use Rattle.p8_expr.specs.Reading.{state_of}
use Rattle.p8_expr.proofs.Taking.{fresh_otherwise, fresh_takes, made_of, not_made}
use Rattle.p8_expr.proofs.Places.{grown_word}
use Rattle.p8_expr.proofs.Stepping.{within_here}
use Rattle.p8_expr.proofs.reading.Reader.operand.Goals as goal

pub before-requires-clause-fresh : goal.before-requires-clause-fresh
before-requires-clause-fresh c =
    let old = c.args.self.now in
    let o = grow (setting_of old.ahead.setting) (shape_of old.form) (next_place old.ahead) (next_lexeme old.ahead) in
    (not_made o old.form c.grow.new.self _ c.in_ok-grown.ensures.comes c.in-Not.is).1 ∙ c.requires.fresh

pub before-requires-clause-tall : goal.before-requires-clause-tall
before-requires-clause-tall c = subst (λ g. IsTallAs g c.grow.new.self) c.in-Not.is (c.in_ok-grown.ensures.tall c.requires.tall)

pub returns-in-Not : goal.returns-in-Not
returns-in-Not c = λ none.
    let old = c.args.self.now in
    let s = setting_of old.ahead.setting in
    let k = frames_in old.stack in
    let p = next_place old.ahead in
    let y = next_lexeme old.ahead in
    let told = ap (λ sh. grow s sh p y) (sym c.requires.fresh) ∙ (not_made (grow s (shape_of old.form) p y) old.form c.grow.new.self _ c.in_ok-grown.ensures.comes c.in-Not.is).0 in
    c.before-in-Not.ensures (state_of old)
    (ap (λ sh. step (state s sh k) (next_token old.ahead)) c.requires.fresh ∙ fresh_otherwise s k p (next_word old.ahead) none told)

pub returns-in_ok-goes-in_default : goal.returns-in_ok-goes-in_default
returns-in_ok-goes-in_default c = λ none.
    let old = c.args.self.now in
    let s = setting_of old.ahead.setting in
    let k = frames_in old.stack in
    let p = next_place old.ahead in
    let y = next_lexeme old.ahead in
    let o = grow s (shape_of old.form) p y in
    let made = made_of o old.form c.grow.new.self _ c.in_ok-grown.ensures.comes c.in_default.not-Not in
    let some = ap (λ sh. grow s sh p y) (sym c.requires.fresh) ∙ made.1 in
    c.in_ok-goes-in_default.ensures (state_of old) o old.form c.in_ok-grown.ensures.comes
    (ap (λ sh. step (state s sh k) (next_token old.ahead)) c.requires.fresh ∙ fresh_takes s k p (next_word old.ahead) made.0 some ∙ sym (ap (entered_all s k) made.1))
    (within_here old.ahead (grown_word s fresh p y made.0 some))
