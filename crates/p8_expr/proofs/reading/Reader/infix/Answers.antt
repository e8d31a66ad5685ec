use Rattle.std.proofs.Common.{Some, sym, ap, ◌∙◌}
use Rattle.std.specs.Prelude.{◌∷◌}
use Rattle.p8_grammar.specs.Machine.{fresh, infix_frame, state}
use Rattle.p8_grammar.specs.Views.{setting_of}
use Rattle.p8_expr.specs.Views.{left_of, frames_in}
use Rattle.p8_expr.proofs.Stepping.{past}
use Rattle.p8_expr.proofs.reading.Reader.infix.Goals as goal

pub returns : goal.returns
returns c = λ st lt steps.
    let ahead = c.args.self.now.ahead in
    let k = frames_in c.args.self.now.stack in (
      steps
          ∙ ap (λ p. Some (state (setting_of ahead.setting) fresh (infix_frame c.args.lower c.args.code p (left_of c.args.left) ∷ k))) (sym c.place-place.ensures)
          ∙ (λ i. Some (state (setting_of (sym c.advance.ensures.setting_is i)) (sym c.new.ensures.0 i) (sym c.in_ok-push.ensures i))),
      lt,
      past ahead c.advance.new.self c.advance.ensures,
      c.new.ensures.1,
    )

pub push-requires-clause-high : goal.push-requires-clause-high
push-requires-clause-high c = c.high-high.ensures c.requires.high

pub push-requires-clause-left : goal.push-requires-clause-left
push-requires-clause-left c = c.requires.high
