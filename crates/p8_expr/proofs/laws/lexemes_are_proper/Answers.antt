use Rattle.p8_expr.proofs.Proper.{are_proper}
use Rattle.p8_expr.proofs.laws.lexemes_are_proper.Goals as goal

pub returns : goal.returns
returns c = λ tokens h. are_proper tokens h
