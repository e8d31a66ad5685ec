use Rattle.p8_fold.proofs.Judged.{one_outcome}
use Rattle.p8_fold.proofs.laws.value_or_fault.Goals as goal

pub returns : goal.returns
returns c = one_outcome
