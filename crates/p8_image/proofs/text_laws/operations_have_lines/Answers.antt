use Rattle.p8_image.proofs.Operations.{spelled-pieces}
use Rattle.p8_image.proofs.text_laws.operations_have_lines.Goals as goal

pub returns : goal.returns
returns c = spelled-pieces
