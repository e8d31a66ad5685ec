use Rattle.std.proofs.Common.{◌++◌, codes}
use Rattle.std.specs.Fmt.{decimal}
use Rattle.std.proofs.lemmas.Result.{on_ok_weaker}
use Rattle.p8_view.proofs.Joined.{then_pair}
use Rattle.p8_view.proofs.nexts.push_late.Goals as goal

pub returns : goal.returns
returns c =
    on_ok_weaker c.push_clock-2.result
    (λ e. then_pair c.args.out.now.items (codes ", which lies " ++ decimal c.args.back) (codes " clocks back: the wait is missed, and ends at clock ") (decimal c.args.end) _ _ c.in_ok-push_clock.ensures e)
    c.push_clock-2.ensures
