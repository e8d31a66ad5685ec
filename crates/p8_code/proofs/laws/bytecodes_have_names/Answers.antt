use Rattle.p8_code.proofs.Named.{named-below}
use Rattle.p8_code.proofs.laws.bytecodes_have_names.Goals as goal

pub returns : goal.returns
returns c = named-below
