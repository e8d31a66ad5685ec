use Rattle.p8_constants.proofs.OneValue.{has_one}
use Rattle.p8_constants.proofs.laws.one_value.Goals as goal

pub returns : goal.returns
returns c = has_one
