use Rattle.std.proofs.Common.{sym, ap, ◌∙◌}
use Rattle.std.specs.Prelude.{min, ◌∷◌}
use Rattle.p8_grammar.specs.Machine.{inside_frame}
use Rattle.p8_grammar.specs.Least.{high_in_hole}
use Rattle.p8_grammar.specs.Views.{setting_of}
use Rattle.p8_expr.specs.Views.{hole_at, frames_in}
use Rattle.p8_expr.proofs.reading.Reader.open.Goals as goal

pub push-requires-clause-high : goal.push-requires-clause-high
push-requires-clause-high c = c.requires ∙ ap (λ p. min 65 (high_in_hole (hole_at c.args.hole p))) (sym c.replace-parts.ensures.value)

pub returns : goal.returns
returns c =
    let old = c.args.self.now in (
      ap setting_of c.stand_in.ensures.2 ∙ c.inside.ensures,
      c.new-2.ensures.0,
      c.in_ok-push.ensures ∙ ap (λ p. inside_frame (setting_of old.ahead.setting) (hole_at c.args.hole p) ∷ frames_in old.stack) c.replace-parts.ensures.value,
      c.stand_in.ensures.0,
      c.stand_in.ensures.1,
      c.new-2.ensures.1,
    )
