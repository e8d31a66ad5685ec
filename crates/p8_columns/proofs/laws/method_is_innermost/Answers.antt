use Rattle.p8_columns.proofs.Meaning.{method_is_innermost}
use Rattle.p8_columns.proofs.laws.method_is_innermost.Goals as goal

pub returns : goal.returns
returns c = method_is_innermost
