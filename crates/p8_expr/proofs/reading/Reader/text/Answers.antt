use Rattle.std.proofs.Common.{◌≡◌, Some, sym, ap, ◌∙◌, arith, true, false}
use Rattle.std.specs.Prelude.{◌∷◌, min, max}
use Rattle.p8_grammar.specs.Least.{high_in_hole, high_in_frame}
use Rattle.p8_grammar.specs.Machine.{state}
use Rattle.p8_grammar.specs.Views.{setting_of}
use Rattle.p8_expr.specs.Views.{shape_of, shape_at, hole_at, frame_of, frames_in, takes_text}
use Rattle.p8_expr.specs.Lookaheads.{next_place, next_word, next_lexeme}
use Rattle.p8_expr.proofs.Taking.{hole_takes, frame_takes, text_takes, text_word}
use Rattle.p8_expr.proofs.Stepping.{within_here, past_from, fits_there}
use Rattle.p8_expr.proofs.reading.Reader.text.Goals as goal

pub with_text-requires-clause-takes : goal.with_text-requires-clause-takes
with_text-requires-clause-takes c =
    let x = c.in-Some-into_opened.opened in
    hole_takes x.hole x.parts (setting_of x.outer) (frames_in c.pop.new.self)
    (sym (ap (λ xs. takes_text (frames_in xs)) c.in-Some.ensures.0 ∙ ap (λ f. takes_text (f ∷ frames_in c.pop.new.self)) c.in-Some-into_opened.ensures) ∙ c.requires.takes)

pub returns : goal.returns
returns c = λ t fresh next lt.
    let old = c.args.self.now in
    let x = c.in-Some-into_opened.opened in
    let k = frames_in c.pop.new.self in
    let s = setting_of old.ahead.setting in
    let h = hole_at x.hole x.parts in
    let is = ap frames_in c.in-Some.ensures.0 ∙ ap (λ f. f ∷ k) c.in-Some-into_opened.ensures in
    let st = c.in_ok-stage-in-Some-into_opened.stage in
    let low : c.in-Some.level.high ≡ min 65 (high_in_hole h) = c.in-Some.ensures.1 ∙ ap (λ f. min 65 (high_in_frame f)) c.in-Some-into_opened.ensures in
    let high : c.max-high.result ≡ min 65 (max (high_in_hole h) 1) = omega (arith, low, c.max-high.ensures) in (
      text_takes s (setting_of x.outer) (shape_of old.form) (shape_at st x.parts) h (frames_in old.stack) k (next_place old.ahead) (next_word old.ahead) t fresh is next (c.in_ok-stage-in-Some-into_opened.ensures.stage t x.parts next lt)
          ∙ (λ i. Some (state (sym (ap setting_of (c.advance.ensures.setting_is ∙ c.stand_in.ensures.2)) i) (shape_at st x.parts) k)),
      within_here old.ahead (text_word (next_lexeme old.ahead) t next),
      past_from old.ahead c.stand_in.new.self c.advance.new.self c.stand_in.ensures.0 c.advance.ensures,
      c.in_ok-stage-in-Some-into_opened.ensures.tall t x.parts c.max-high.result next lt high,
    )

pub advance-requires : goal.advance-requires
advance-requires c = fits_there c.args.self.now.ahead c.stand_in.new.self c.stand_in.ensures.0 c.stand_in.ensures.1 c.requires.fits

pub unreachable-requires : goal.unreachable-requires
unreachable-requires c = frame_takes (frame_of c.in-Some.level.frame) (frames_in c.pop.new.self) c.in-None-into_opened.ensures (sym (ap (λ xs. takes_text (frames_in xs)) c.in-Some.ensures.0) ∙ c.requires.takes)

pub unreachable-requires-in-None : goal.unreachable-requires-in-None
unreachable-requires-in-None c = let other : false ≡ true = sym (ap (λ xs. takes_text (frames_in xs)) c.in-None.ensures.0) ∙ c.requires.takes in cc
