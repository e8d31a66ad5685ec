use Rattle.std.proofs.Common.{arith}
use Rattle.p8_expr.proofs.BegunFrames.{least_variable, least_tree}
use Rattle.p8_expr.proofs.value.Value.least_assigned.Goals as goal

pub returns-in-Variable : goal.returns-in-Variable
returns-in-Variable c = least_variable c.args.self.now _ _ _ c.over.result c.in-Variable.is (omega (arith, c.over.ensures, c.max.ensures))

pub returns-in-Tree : goal.returns-in-Tree
returns-in-Tree c = λ high. least_tree c.args.self.now _ _ c.in-Tree.is
