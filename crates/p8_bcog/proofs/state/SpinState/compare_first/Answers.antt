use Rattle.std.proofs.Common.{sym, ◌∙◌}
use Rattle.p8_bcog.proofs.Looping.{compared_is}
use Rattle.p8_bcog.proofs.state.SpinState.compare_first.Goals as goal

pub returns-clause-does : goal.returns-clause-does
returns-clause-does c = c.reading.ensures.does c.args.self.now ∙ sym (compared_is c.args.first c.args.second c.args.byte c.args.self.now)
