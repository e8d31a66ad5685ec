use Rattle.p8_legend.proofs.Lined.{statement-lines, alone-lines, method-lines}
use Rattle.p8_legend.proofs.code_laws.lines_are_of_their_statements.Goals as goal

pub returns-clause-statements : goal.returns-clause-statements
returns-clause-statements c = λ n l x w. statement-lines n l x w

pub returns-clause-alone : goal.returns-clause-alone
returns-clause-alone c = λ n l place action none w. alone-lines n l place action none w

pub returns-clause-methods : goal.returns-clause-methods
returns-clause-methods c = λ n ss. method-lines n ss
