use Rattle.std.proofs.Common.{refl}
use Rattle.p8_code.specs.Bytecodes.{names}
use Rattle.p8_code.proofs.bytecodes.names.Goals as goal

pub returns : goal.returns
unfolding names
returns c = refl
