use Rattle.p8_tree.specs.Views.{arm_of}
use Rattle.p8_columns.proofs.Built.{chain_none, chain_some}
use Rattle.p8_columns.proofs.statements.chain_with.Goals as goal

pub returns-in_ok-with_another-in-None : goal.returns-in_ok-with_another-in-None
returns-in_ok-with_another-in-None c = chain_none c.args.place c.args.arms c.in_ok-with_another-in-None.field-0 c.args.other (arm_of c.args.arm) c.in-None.is c.in_ok-with_another-in-None.ensures

pub returns-in-Some : goal.returns-in-Some
returns-in-Some c = chain_some c.args.place c.args.arms c.args.other c.in-Some.body (arm_of c.args.arm) c.in-Some.is
