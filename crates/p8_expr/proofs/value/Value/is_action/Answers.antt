use Rattle.p8_expr.proofs.Operators.{action_variable, action_tree}
use Rattle.p8_expr.proofs.value.Value.is_action.Goals as goal

pub returns-in-Variable : goal.returns-in-Variable
returns-in-Variable c = action_variable c.args.self.now _ _ _ c.in-Variable.is

pub returns-in-Tree : goal.returns-in-Tree
returns-in-Tree c = action_tree c.args.self.now _ _ c.in-Tree.is
