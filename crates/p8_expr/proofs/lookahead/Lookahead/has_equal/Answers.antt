use Rattle.p8_expr.proofs.Stepping.{has_mark, has_no_mark}
use Rattle.p8_expr.proofs.lookahead.Lookahead.has_equal.Goals as goal

pub returns-in-Mark : goal.returns-in-Mark
returns-in-Mark c = has_mark c.args.self.now c.in-Mark.mark c.is_equal.result c.requires c.in-Mark.is c.is_equal.ensures

pub returns-in_default : goal.returns-in_default
returns-in_default c = has_no_mark c.args.self.now c.requires c.in_default.not-Mark
