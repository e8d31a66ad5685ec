use Rattle.p8_print.proofs.WrittenExpressions.{not_number}
use Rattle.p8_print.proofs.expressions.is_number.Goals as goal

pub returns-in_default : goal.returns-in_default
returns-in_default c = not_number c.args.expr.now.place c.args.expr.now.kind c.in_default.not-Number
