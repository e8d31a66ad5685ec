use Rattle.p8_legend.proofs.Covered.{table-covers}
use Rattle.p8_legend.proofs.table_laws.each_byte_of_code_has_a_row.Goals as goal

pub returns : goal.returns
returns c = λ files distinct no_ring clock objects table built is i object at k method at_m o less. table-covers files (c.one_for_each_project.ensures files distinct no_ring) clock objects table built is i object at k method at_m o less
