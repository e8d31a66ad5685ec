use Rattle.std.proofs.Common.{◌∙◌, ◌≡◌, refl, ap, map, max, subst, sym, arith}
use Rattle.std.specs.Int.{div_ceil}
use Rattle.std.specs.List.{range_with_len}
use Rattle.p8_wave.specs.Plot.{column_at, columns_of}
use Rattle.p8_wave.specs.Tracing.{Follow}
use Rattle.p8_wave.proofs.Columns.{one-more, ends-at, all-columns, columns-follow}
use Rattle.p8_wave.proofs.grid.columns.Goals as goal

pub loop-number-preserved : goal.loop-number-preserved
loop-number-preserved c =
    one-more c.args.from c.args.end c.max-width.result c.loop-number.number c.loop-number.columns.items c.push.new.columns.items _ _ c.loop-number.invariant refl
    (ends-at c.args.from c.args.end c.saturating_sub-shown.result c.max-width.result c.loop-number.number c.min.result c.saturating_sub-shown.ensures (omega (arith, c.max-width.ensures))
    (omega (arith, c.loop-number-test.true, c.div_ceil-number-end.ensures)) c.min.ensures) c.in_ok-push.ensures

all-are : (c : goal.After-loop-number) → c.loop-number.columns.items ≡ columns_of c.args.most c.args.from c.args.end
all-are c =
    c.loop-number.invariant
    ∙ ap (λ n. map (column_at c.args.from c.args.end c.max-width.result) (range_with_len 0 n)) (omega (arith, c.loop-number-test.false, c.loop-number.auto.number-end, c.div_ceil-number-end.ensures))
    ∙ all-columns c.args.most c.args.from c.args.end c.saturating_sub-shown.result c.max-width.result c.saturating_sub-shown.ensures
    (c.max-width.ensures ∙ ap (λ n. max n 1) (c.div_ceil.ensures ∙ ap (div_ceil c.saturating_sub-shown.result) (c.max-limit.ensures ∙ ap (λ n. max n 1) c.from.ensures)))

pub returns-clause-columns : goal.returns-clause-columns
returns-clause-columns c = all-are c

pub returns-clause-follow : goal.returns-clause-follow
returns-clause-follow c = subst (Follow 0) (sym (all-are c)) (columns-follow c.args.most c.args.from c.args.end)
