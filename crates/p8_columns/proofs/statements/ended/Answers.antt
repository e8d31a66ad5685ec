use Rattle.std.proofs.Common.{ap, ◌∙◌}
use Rattle.p8_tree.specs.Views.{statements_of}
use Rattle.p8_columns.specs.Reader.{ended}
use Rattle.p8_columns.proofs.Built.{chain_view}
use Rattle.p8_columns.proofs.statements.ended.Goals as goal

pub returns-in-If : goal.returns-in-If
returns-in-If c = c.chain_ended.ensures ∙ ap (λ x. ended x (statements_of c.args.body.items)) (chain_view c.args.statement.place c.args.statement.kind c.in-If.arms c.in-If.other c.in-If.is)
