use Rattle.p8_declarations.proofs.Defaults.{default_there}
use Rattle.p8_declarations.proofs.data_laws.instructions_agree.Goals as goal

pub returns : goal.returns
returns c = default_there
