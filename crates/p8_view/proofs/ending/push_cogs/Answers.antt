use Rattle.std.proofs.Common.{◌≡◌, ◌++◌, ℕ, ap, ◌∙◌, arith}
use Rattle.std.specs.List.{range_with_len, flat_map}
use Rattle.p8_view.specs.Ending.{cog_line}
use Rattle.p8_view.proofs.Ranges.{flat_map_step}
use Rattle.p8_view.proofs.ending.push_cogs.Goals as goal

pub loop-cog-preserved : goal.loop-cog-preserved
loop-cog-preserved c = λ w counters past clocks are cogs. flat_map_step (cog_line c.args.nexts.now.legend.now w counters c.args.nexts.now.asked.now past) c.loop-cog.cog _ _ _ (c.loop-cog.invariant w counters past clocks are cogs) (c.in_ok-push_cog.ensures w counters past clocks are cogs)

pub returns : goal.returns
returns c = λ w counters past clocks are cogs.
    let all : c.loop-cog.cog ≡ 8 = omega arith in
    c.loop-cog.invariant w counters past clocks are cogs ∙ ap (λ (n : ℕ). c.args.out.now.items ++ flat_map (cog_line c.args.nexts.now.legend.now w counters c.args.nexts.now.asked.now past) (range_with_len 0 n)) all
