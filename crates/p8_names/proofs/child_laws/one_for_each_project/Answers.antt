use Rattle.p8_names.proofs.OneRow.{one_row}
use Rattle.p8_names.proofs.child_laws.one_for_each_project.Goals as goal

pub returns : goal.returns
returns c = λ files distinct no_ring a b left right. one_row files distinct a b left right no_ring
