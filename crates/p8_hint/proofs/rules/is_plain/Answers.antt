use Rattle.p8_hint.specs.Tables.{facts_of}
use Rattle.p8_hint.proofs.Others.{plain_other}
use Rattle.p8_hint.proofs.rules.is_plain.Goals as goal

pub returns-in_default : goal.returns-in_default
returns-in_default c = plain_other (facts_of c.args.facts.now) c.args.expr.now.place c.args.expr.now.kind c.in_default.not-Number c.in_default.not-ObjConst c.in_default.not-Var
