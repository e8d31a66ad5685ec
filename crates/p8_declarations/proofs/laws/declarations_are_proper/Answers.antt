use Rattle.p8_declarations.proofs.ProperItems.{constants_proper, variables_proper, objects_proper, heads_proper}
use Rattle.p8_declarations.proofs.laws.declarations_are_proper.Goals as goal

pub returns-clause-constants : goal.returns-clause-constants
returns-clause-constants c = constants_proper

pub returns-clause-variables : goal.returns-clause-variables
returns-clause-variables c = variables_proper

pub returns-clause-objects : goal.returns-clause-objects
returns-clause-objects c = objects_proper

pub returns-clause-heads : goal.returns-clause-heads
returns-clause-heads c = heads_proper
