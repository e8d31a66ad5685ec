use Rattle.p8_meaning.proofs.Bodies.{no-number}
use Rattle.p8_meaning.proofs.loops.number_in.Goals as goal

pub returns-in_default : goal.returns-in_default
returns-in_default c = no-number c.args.expr.now.place c.args.expr.now.kind c.in_default.not-Number
