use Rattle.p8_expr.proofs.BegunFrames.{assigned_variable, assigned_tree, assigned_other}
use Rattle.p8_expr.proofs.stack.Frame.into_assigned.Goals as goal

pub returns-in-Some : goal.returns-in-Some
returns-in-Some c = λ high. assigned_variable c.args.self _ _ _ c.in-Infix.left c.in-Some.variable c.in-Some.high c.in-Infix.is c.in-Some.ensures high

pub returns-in-None : goal.returns-in-None
returns-in-None c = λ high. assigned_tree c.args.self _ _ _ c.in-Infix.left c.in-Infix.is c.in-None.ensures

pub returns-in_default : goal.returns-in_default
returns-in_default c = λ high. assigned_other c.args.self c.in_default.not-Infix
