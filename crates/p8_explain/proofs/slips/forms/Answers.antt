use Rattle.std.proofs.Common.{refl}
use Rattle.p8_explain.specs.Slips.{forms}
use Rattle.p8_explain.proofs.slips.forms.Goals as goal

pub returns : goal.returns
unfolding forms
returns c = refl
