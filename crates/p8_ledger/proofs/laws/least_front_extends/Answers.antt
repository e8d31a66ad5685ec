use Rattle.p8_ledger.proofs.Telling.{least-extends}
use Rattle.p8_ledger.proofs.laws.least_front_extends.Goals as goal

pub returns : goal.returns
returns c = λ w r turn truth room least next answer. least-extends w r turn truth room least next answer
