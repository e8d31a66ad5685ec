use Rattle.std.proofs.Common.{◌+◌, ◌-◌, ◌^◌, ◌||◌, nat_lt, ap, ◌∙◌, arith}
use Rattle.p8_stmt.specs.Methods.{most_longs, most_held}
use Rattle.p8_stmt.proofs.Sizes.{cut_test}
use Rattle.p8_stmt.proofs.frames.is_too_large.Goals as goal

pub returns : goal.returns
returns c =
    c.is_too_large.ensures
    ∙ ap (λ n. nat_lt most_longs n || nat_lt most_held c.args.held) c.frame_longs.ensures
    ∙ ap (λ t. t || nat_lt most_held c.args.held) (cut_test (1 + c.args.params + c.args.longs) (2 ^ 32 - 1) most_longs (omega arith))
