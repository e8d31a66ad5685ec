use Rattle.p8_expr.proofs.Taking.{no_inside}
use Rattle.p8_expr.proofs.stack.Frame.into_opened.Goals as goal

pub returns-in_default : goal.returns-in_default
returns-in_default c = no_inside c.args.self c.in_default.not-Inside
