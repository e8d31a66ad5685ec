use Rattle.p8_ledger.proofs.Telling.{say-truth}
use Rattle.p8_ledger.proofs.laws.saying_keeps_truth.Goals as goal

pub returns : goal.returns
returns c = λ w r cog next truth is. say-truth w r cog next truth is
