use Rattle.std.proofs.Common.{◌≡◌, subst}
use Rattle.std.specs.Prelude.{IfOk}
use Rattle.p8_tree.specs.Views.{arm_of, statement_of}
use Rattle.p8_columns.specs.Reader.{chained}
use Rattle.p8_columns.proofs.Built.{chain_view}
use Rattle.p8_columns.proofs.statements.chained.Goals as goal

pub returns-in-If : goal.returns-in-If
returns-in-If c = subst (λ x. IfOk c.chain_with.result (λ s. statement_of s ≡ chained x (arm_of c.args.arm))) (chain_view c.args.statement.place c.args.statement.kind c.in-If.arms c.in-If.other c.in-If.is) c.chain_with.ensures
