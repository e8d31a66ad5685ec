use Rattle.p8_instr.specs.Conditions.{conditions}
use Rattle.p8_instr.proofs.conditions.condition_name.Goals as goal

pub returns-clause-value : goal.returns-clause-value
unfolding conditions
returns-clause-value c = c.name_in.ensures
