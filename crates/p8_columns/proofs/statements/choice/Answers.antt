use Rattle.std.proofs.Common.{false}
use Rattle.p8_tree.specs.Bridges.{arm_is}
use Rattle.p8_columns.proofs.statements.choice.Goals as goal

pub returns : goal.returns
returns c = arm_is c.args.tests false c.args.body
