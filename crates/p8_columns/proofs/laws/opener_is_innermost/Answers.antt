use Rattle.p8_columns.proofs.Meaning.{opener_is_innermost}
use Rattle.p8_columns.proofs.laws.opener_is_innermost.Goals as goal

pub returns : goal.returns
returns c = opener_is_innermost
