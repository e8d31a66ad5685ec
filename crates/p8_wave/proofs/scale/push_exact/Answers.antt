use Rattle.std.proofs.Common.{◌∙◌, ap, ◌++◌, ℕ, codes}
use Rattle.std.proofs.lemmas.Result.{on_ok_weaker}
use Rattle.p8_wave.specs.Scale.{power_of, unit_text}
use Rattle.p8_wave.proofs.Pieces.{three}
use Rattle.p8_wave.proofs.scale.push_exact.Goals as goal

pub returns : goal.returns
returns c =
    on_ok_weaker c.push_text-2.result
    (λ e. three c.args.out.now.items (codes "$timescale ") (unit_text (power_of c.args.period)) (codes " $end\n") _ _ _ c.in_ok-push_text.ensures (c.in_ok-push_unit.ensures ∙ ap (λ (n : ℕ). c.push_text.new.out.items ++ unit_text n) c.tens_of.ensures.power) e)
    c.push_text-2.ensures
