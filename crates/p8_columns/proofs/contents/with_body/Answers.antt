use Rattle.p8_tree.specs.Views.{statements_of}
use Rattle.p8_columns.proofs.Built.{ok_as}
use Rattle.p8_columns.proofs.Steps.{body_repeat}
use Rattle.p8_columns.proofs.contents.with_body.Goals as goal

pub returns-in-Repeat : goal.returns-in-Repeat
returns-in-Repeat c = ok_as c.with_statement-in-Repeat.result _ _ (body_repeat (statements_of c.args.statements.items) c.args.line.place c.args.line.kind c.in-Repeat.course c.args.body c.in-Repeat.is) c.with_statement-in-Repeat.ensures
