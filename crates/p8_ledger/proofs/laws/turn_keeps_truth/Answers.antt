use Rattle.p8_ledger.proofs.Telling.{take-truth}
use Rattle.p8_ledger.proofs.laws.turn_keeps_truth.Goals as goal

pub returns : goal.returns
returns c = λ w r turn truth extends made. take-truth w r turn truth extends made
