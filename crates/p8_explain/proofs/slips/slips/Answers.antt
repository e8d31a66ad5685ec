use Rattle.std.proofs.Common.{refl}
use Rattle.p8_explain.specs.Slips.{slips}
use Rattle.p8_explain.proofs.slips.slips.Goals as goal

pub returns : goal.returns
unfolding slips
returns c = refl
