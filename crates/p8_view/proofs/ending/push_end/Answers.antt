use Rattle.std.proofs.lemmas.Result.{on_ok_weaker}
use Rattle.std.proofs.Common.{refl, reverse}
use Rattle.p8_view.proofs.Joined.{told_end}
use Rattle.p8_view.proofs.ending.push_end.Goals as goal

pub returns : goal.returns
returns c = λ w first limited timed.
    let turns = c.args.turns.now in
    on_ok_weaker c.push_why_line.result
    (told_end c.args.legend.now w c.args.counters.now c.args.asked.now turns _ _ _ _ c.args.out.now.items _ _ _ refl c.last_clock.ensures limited timed (let after = c.of.ensures w first in c.in_ok-push_cogs.ensures w c.args.counters.now (reverse turns) timed after.0 after.1) c.in_ok-push_made.ensures)
    c.push_why_line.ensures
