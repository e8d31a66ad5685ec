use Rattle.p8_expr.proofs.Runs.{one_outcome, one_fault}
use Rattle.p8_expr.proofs.parsing.one_answer.Goals as goal

pub returns-clause-outcome : goal.returns-clause-outcome
returns-clause-outcome c = one_outcome

pub returns-clause-fault : goal.returns-clause-fault
returns-clause-fault c = one_fault
