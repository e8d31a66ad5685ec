use Rattle.std.proofs.Common.{arith}
use Rattle.p8_stmt.proofs.Locals.{begin_there, begin_past}
use Rattle.p8_stmt.proofs.spelling.begin_of.Goals as goal

pub returns-then-number-begins : goal.returns-then-number-begins
returns-then-number-begins c = λ ops b t. begin_there ops c.args.begins.now c.args.number _ b (omega (arith, c.if-number-begins.true))

pub returns-else-number-begins : goal.returns-else-number-begins
returns-else-number-begins c = λ ops b t. begin_past ops c.args.begins.now c.args.number c.args.total b (omega (arith, c.if-number-begins.false)) t
