use Rattle.p8_columns.proofs.Meaning.{one_reading}
use Rattle.p8_columns.proofs.laws.one_reading.Goals as goal

pub returns : goal.returns
returns c = one_reading
