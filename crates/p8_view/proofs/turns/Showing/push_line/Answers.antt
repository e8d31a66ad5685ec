use Rattle.std.proofs.lemmas.Result.{on_ok_weaker}
use Rattle.p8_view.proofs.Showing.{told_line}
use Rattle.p8_view.proofs.turns.Showing.push_line.Goals as goal

pub returns : goal.returns
returns c = λ w past own before after rate.
    on_ok_weaker c.push_what.result
    (told_line c.args.self.now.legend.now w past c.args.turn.now c.args.counter _ _ _ c.args.self.now.frequency c.args.out.now.items _ _ own before after rate c.in_ok-push_when.ensures)
    c.push_what.ensures
