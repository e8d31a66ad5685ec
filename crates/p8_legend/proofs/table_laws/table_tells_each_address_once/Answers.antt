use Rattle.p8_legend.proofs.LinesApart.{table-apart}
use Rattle.p8_legend.proofs.table_laws.table_tells_each_address_once.Goals as goal

pub returns : goal.returns
returns c = λ files distinct no_ring clock objects table built is. table-apart files (c.one_for_each_project.ensures files distinct no_ring) clock objects table built is
