use Rattle.p8_tree.specs.Views.{tree_of}
use Rattle.p8_columns.proofs.Built.{loop_tested}
use Rattle.p8_columns.proofs.statements.tested.Goals as goal

pub returns-in-Repeat : goal.returns-in-Repeat
returns-in-Repeat c = loop_tested c.args.statement.place c.args.statement.kind c.in-Repeat.course c.closing.result c.in-Repeat.body c.args.until (tree_of c.args.test) c.in-Repeat.is c.closing.ensures
