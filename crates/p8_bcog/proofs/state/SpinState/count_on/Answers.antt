use Rattle.std.proofs.Common.{sym, ◌∙◌}
use Rattle.p8_bcog.proofs.Looping.{counts_is}
use Rattle.p8_bcog.proofs.state.SpinState.count_on.Goals as goal

pub returns-clause-does : goal.returns-clause-does
returns-clause-does c = c.reading.ensures.does c.args.self.now ∙ sym (counts_is c.args.address c.args.count c.args.self.now c.ranges.address.fits)
