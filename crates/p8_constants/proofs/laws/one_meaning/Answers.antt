use Rattle.p8_fold.proofs.Agreeing.{value_same, faults_alike}
use Rattle.p8_constants.proofs.OneValue.{right_one}
use Rattle.p8_constants.proofs.laws.one_meaning.Goals as goal

pub returns-clause-values : goal.returns-clause-values
returns-clause-values c = λ k e s t a b. value_same s t e.tree (right_one k e s t a b)

pub returns-clause-faults : goal.returns-clause-faults
returns-clause-faults c = λ k e s t a b. faults_alike t s e.tree (right_one k e t s b a)
