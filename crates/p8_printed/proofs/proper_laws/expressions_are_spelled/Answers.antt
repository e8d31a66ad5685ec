use Rattle.p8_printed.proofs.Expressions.{expression_spelled, action_spelled}
use Rattle.p8_printed.proofs.proper_laws.expressions_are_spelled.Goals as goal

pub returns-clause-value : goal.returns-clause-value
returns-clause-value c = expression_spelled

pub returns-clause-action : goal.returns-clause-action
returns-clause-action c e h = let x = action_spelled e h in (x.tree, x.tokens, x.reads, x.lexemes, x.same)
