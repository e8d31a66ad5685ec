use Rattle.p8_printed.proofs.Runs.{plain_column}
use Rattle.p8_printed.proofs.reading.plain_columns.Goals as goal

pub returns : goal.returns
returns c = λ column cs plain. plain_column column cs plain
