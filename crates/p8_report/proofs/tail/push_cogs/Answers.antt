use Rattle.std.proofs.Common.{◌≡◌, ◌++◌, ℕ, ap, ◌∙◌, arith}
use Rattle.std.specs.List.{range_with_len, flat_map}
use Rattle.p8_report.specs.Text.{cog_text}
use Rattle.p8_report.proofs.Ranges.{flat_map_step}
use Rattle.p8_report.proofs.tail.push_cogs.Goals as goal

pub loop-cog-preserved : goal.loop-cog-preserved
loop-cog-preserved c = λ w past h. flat_map_step (cog_text w past) c.loop-cog.cog _ _ _ (c.loop-cog.invariant w past h) (c.in_ok-push_cog.ensures w past h)

pub returns : goal.returns
returns c = λ w past h.
    let all : c.loop-cog.cog ≡ 8 = omega arith in
    c.loop-cog.invariant w past h ∙ ap (λ (n : ℕ). c.args.out.now.items ++ flat_map (cog_text w past) (range_with_len 0 n)) all
