use Rattle.p8_legend.proofs.LineRows.{rows-of}
use Rattle.p8_legend.proofs.table_laws.rows_are_of_their_methods.Goals as goal

pub returns : goal.returns
returns c = λ files table is. rows-of files table is
