use Rattle.p8_tree.specs.Views.{statements_of}
use Rattle.p8_columns.proofs.Built.{ok_as}
use Rattle.p8_columns.proofs.Steps.{choices_case}
use Rattle.p8_columns.proofs.contents.with_choices.Goals as goal

pub returns-in-Case : goal.returns-in-Case
returns-in-Case c = ok_as c.with_statement.result _ _ (choices_case (statements_of c.args.statements.items) c.args.line.place c.args.line.kind c.in-Case.value c.args.arms c.args.other c.in-Case.is) c.with_statement.ensures
