use Rattle.p8_printed.proofs.Names.{no_name_fault}
use Rattle.p8_printed.proofs.long_laws.names_are_good.Goals as goal

pub returns : goal.returns
returns c = λ long line children is f. no_name_fault long line children is f
