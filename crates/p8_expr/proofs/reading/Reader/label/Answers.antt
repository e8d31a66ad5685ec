use Rattle.std.proofs.Common.{Some, None, true, false, refl, sym, ap, ◌∙◌}
use Rattle.std.specs.Prelude.{if◌then◌else◌, map}
use Rattle.p8_lexer.specs.Words.{capital}
use Rattle.p8_grammar.specs.Machine.{coloned, named, state, step}
use Rattle.p8_grammar.specs.Views.{setting_of}
use Rattle.p8_grammar.proofs.Steps.{grown_moved}
use Rattle.p8_expr.specs.Views.{use_of, shape_at, shape_of, frames_in}
use Rattle.p8_expr.specs.Lookaheads.{next_place, next_word, next_text, next_token}
use Rattle.p8_expr.proofs.Taking.{cut_step, label_grows, no_label_grows, label_within}
use Rattle.p8_expr.proofs.Stepping.{past}
use Rattle.p8_expr.proofs.reading.Reader.label.Goals as goal

pub returns-then-not-is_label : goal.returns-then-not-is_label
returns-then-not-is_label c =
    let old = c.args.self.now in
    let p = old.form.parts in
    let u = use_of p.usage in
    let s = setting_of old.ahead.setting in
    let k = frames_in old.stack in
    let none = c.is_label.ensures ∙ ap (λ b. if b then Some (map capital (next_text old.ahead)) else None) c.if-not-is_label.true in
    ap (λ st. step (state s (shape_at st p) k) (next_token old.ahead)) c.requires.stage
    ∙ cut_step s (coloned u p.place) k (next_place old.ahead) (next_word old.ahead) refl (no_label_grows s u p.place (next_place old.ahead) (next_word old.ahead) none)

pub returns : goal.returns
returns c =
    let old = c.args.self.now in
    let p = old.form.parts in
    let u = use_of p.usage in
    let s = setting_of old.ahead.setting in
    let k = frames_in old.stack in
    let n = map capital (next_text old.ahead) in
    let next = c.advance.new.self in
    let some = c.is_label.ensures ∙ ap (λ b. if b then Some n else None) c.if-not-is_label.false in
    let to = shape_of c.on_label.new.self in
    let is = c.on_label.ensures.shape ∙ ap (named false u p.place) c.in_ok-name.ensures in (
      ap (λ st. step (state s (shape_at st p) k) (next_token old.ahead)) c.requires.stage
          ∙ grown_moved s (coloned u p.place) k (next_place old.ahead) (next_word old.ahead) _ (label_grows s u p.place (next_place old.ahead) (next_word old.ahead) n some)
          ∙ (λ i. Some (state (setting_of (sym c.advance.ensures.setting_is i)) (sym is i) k)),
      label_within old.ahead.here.bytes old.ahead.here.tokens old.ahead.here.at n some,
      past old.ahead next c.advance.ensures,
      c.on_label.ensures.tall c.requires.tall,
    )
