use Rattle.p8_view.proofs.Missed.{missed-ends}
use Rattle.p8_view.proofs.laws.missed_wait_ends.Goals as goal

pub returns : goal.returns
returns c = missed-ends
