use Rattle.p8_expr.proofs.Trees.{read_proper, read_done}
use Rattle.p8_expr.proofs.laws.read_is_proper.Goals as goal

pub returns-clause-value : goal.returns-clause-value
returns-clause-value c = λ s limit bytes tokens at end e small are within value parses. read_proper bytes tokens small are c.spelled_is_proper.ensures.value s limit at end e within value parses

pub returns-clause-action : goal.returns-clause-action
returns-clause-action c = λ limit bytes tokens at end e small are within parses. read_done bytes tokens small are c.spelled_is_proper.ensures.action limit at end e within parses
