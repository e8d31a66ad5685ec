use Rattle.p8_ledger.proofs.Telling.{next-late}
use Rattle.p8_ledger.proofs.laws.least_front_comes_first.Goals as goal

pub returns : goal.returns
returns c = λ w r key n clock access truth least next before. next-late w r n clock access next truth key least before
