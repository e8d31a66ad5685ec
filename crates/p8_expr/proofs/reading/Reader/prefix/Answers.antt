use Rattle.std.proofs.Common.{Some, true, false, sym, ap, ◌∙◌, arith}
use Rattle.std.specs.Prelude.{◌+◌, ◌*◌, ◌<◌, ◌≤◌, ◌∷◌}
use Rattle.p8_grammar.specs.Grammar.{rank}
use Rattle.p8_grammar.specs.Machine.{fresh, prefix_frame, level_bound_of, state}
use Rattle.p8_grammar.specs.Views.{setting_of}
use Rattle.p8_expr.specs.Views.{prefix_in, frames_in}
use Rattle.p8_expr.specs.Lookaheads.{next_place, next_lexeme}
use Rattle.p8_expr.proofs.Taking.{not_value_prefixed, low_prefixed, some_prefixed, prefix_has_word}
use Rattle.p8_expr.proofs.Stepping.{past, within_here}
use Rattle.p8_expr.proofs.reading.Reader.prefix.Goals as goal

pub returns-then-not-is_value : goal.returns-then-not-is_value
returns-then-not-is_value c = λ st is steps.
    let old = c.args.self.now in
    steps ∙ not_value_prefixed (setting_of old.ahead.setting) (Some (prefix_in c.args.operator)) (next_place old.ahead) (frames_in old.stack) (sym c.is_value.ensures ∙ c.if-not-is_value.true)

pub returns-then-level-level_bound : goal.returns-then-level-level_bound
returns-then-level-level_bound c = λ st is steps.
    let old = c.args.self.now in
    let k = frames_in old.stack in
    let o = prefix_in c.args.operator in
    let low : level_bound_of k ≤ 2 * rank o + 1 = omega (arith, c.level.ensures, c.level_bound.ensures) in
    steps ∙ low_prefixed (setting_of old.ahead.setting) o (next_place old.ahead) k low

pub returns : goal.returns
returns c = λ st is steps.
    let old = c.args.self.now in
    let k = frames_in old.stack in
    let s = setting_of old.ahead.setting in
    let o = prefix_in c.args.operator in
    let low : 2 * rank o + 1 < level_bound_of k = omega (arith, c.level.ensures, c.level_bound.ensures) in (
      steps ∙ some_prefixed s o (next_place old.ahead) k (sym c.is_value.ensures ∙ c.if-not-is_value.false) low
          ∙ ap (λ p. Some (state s fresh (prefix_frame o p ∷ k))) (sym c.place-place.ensures)
          ∙ (λ i. Some (state (setting_of (sym c.advance.ensures.setting_is i)) (sym c.requires.fresh i) (sym c.in_ok-push.ensures i))),
      within_here old.ahead (prefix_has_word (next_lexeme old.ahead) o is),
      past old.ahead c.advance.new.self c.advance.ensures,
      c.requires.tall,
    )
