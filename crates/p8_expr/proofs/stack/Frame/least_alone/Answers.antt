use Rattle.p8_expr.proofs.BegunFrames.{least_infix, least_plain}
use Rattle.p8_expr.proofs.stack.Frame.least_alone.Goals as goal

pub returns-in-Infix : goal.returns-in-Infix
returns-in-Infix c = λ high. least_infix c.args.self.now _ _ _ _ c.least_assigned.result c.in-Infix.is c.least_assigned.ensures high

pub returns-in_default : goal.returns-in_default
returns-in_default c = λ high. least_plain c.args.self.now c.in_default.not-Infix
