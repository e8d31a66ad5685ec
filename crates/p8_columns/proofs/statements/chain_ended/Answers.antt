use Rattle.p8_columns.proofs.Built.{end_none, end_some}
use Rattle.p8_columns.proofs.statements.chain_ended.Goals as goal

pub returns-in-None : goal.returns-in-None
returns-in-None c = end_none c.args.place c.args.arms c.args.other c.args.body c.in-None.is

pub returns-in-Some : goal.returns-in-Some
returns-in-Some c = end_some c.args.place c.args.arms c.args.other c.in-Some.first c.args.body c.in-Some.is
