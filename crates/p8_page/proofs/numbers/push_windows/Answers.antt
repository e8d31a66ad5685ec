use Rattle.std.proofs.Common.{rules, ◌≡◌, ◌∙◌, ap, ℕ, ◌++◌, arith}
use Rattle.std.specs.List.{flat_map, range_with_len}
use Rattle.p8_access.specs.Windows.{window_of}
use Rattle.p8_page.specs.Page.{number_line}
use Rattle.p8_page.proofs.Joining.{each_more}
use Rattle.p8_page.proofs.numbers.push_windows.Goals as goal

pub loop-cog-preserved : goal.loop-cog-preserved
loop-cog-preserved c = each_more (λ (cog : ℕ). number_line (window_of cog c.args.from)) c.loop-cog.cog _ _ _ c.loop-cog.invariant (search rules)

pub returns : goal.returns
returns c =
    let all : c.loop-cog.cog ≡ 8 = omega arith in
    c.loop-cog.invariant ∙ ap (λ (n : ℕ). c.args.out.now.items ++ flat_map (λ (cog : ℕ). number_line (window_of cog c.args.from)) (range_with_len 0 n)) all
