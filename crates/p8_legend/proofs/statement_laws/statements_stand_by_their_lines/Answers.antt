use Rattle.p8_legend.proofs.Meaning.{stands-by-lines}
use Rattle.p8_legend.proofs.statement_laws.statements_stand_by_their_lines.Goals as goal

pub returns : goal.returns
returns c = λ n t base agrees l x is loops clean w has lines are. stands-by-lines t base n agrees l x is loops clean w has lines are
