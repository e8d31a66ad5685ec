use Rattle.p8_code.proofs.Listed.{objects-plain}
use Rattle.p8_code.proofs.laws.listing_is_in_code.Goals as goal

pub returns : goal.returns
returns c = λ files objects known have. objects-plain files 16 files objects known have
