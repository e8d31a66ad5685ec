use Rattle.p8_blocks.proofs.Methods.{from_name}
use Rattle.p8_blocks.proofs.row_laws.methods_have_values.Goals as goal

pub returns : goal.returns
returns c = from_name
