use Rattle.p8_grammar.proofs.Proper.{spelled_proper, spelled_done}
use Rattle.p8_grammar.proofs.laws.spelled_is_proper.Goals as goal

pub returns-clause-value : goal.returns-clause-value
returns-clause-value c = spelled_proper

pub returns-clause-action : goal.returns-clause-action
returns-clause-action c = spelled_done
