use Rattle.p8_constants.proofs.Adding.{one_more}
use Rattle.p8_constants.proofs.laws.steps_add.Goals as goal

pub returns : goal.returns
returns c = one_more
