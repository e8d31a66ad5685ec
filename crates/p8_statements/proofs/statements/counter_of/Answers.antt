use Rattle.std.proofs.Common.{◌∙◌}
use Rattle.p8_statements.proofs.Trees.{counter_form, counter_none}
use Rattle.p8_statements.proofs.statements.counter_of.Goals as goal

pub returns-in-Var : goal.returns-in-Var
returns-in-Var c p = counter_form c.args.kind c.in-Var.target p c.name_alone.result c.in-Var.is c.name_alone.ensures

pub returns-in_default : goal.returns-in_default
returns-in_default c p = c.discarding.ensures ∙ counter_none c.args.kind p c.in_default.not-Var
