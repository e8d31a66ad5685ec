use Rattle.p8_gen.proofs.Widths.{value-alike, body-alike}
use Rattle.p8_gen.proofs.laws.places_change_no_length.Goals as goal

pub returns-clause-expressions : goal.returns-clause-expressions
returns-clause-expressions c = λ n texts s e v w is. (value-alike n texts s e).ends v w is

pub returns-clause-statements : goal.returns-clause-statements
returns-clause-statements c = λ n texts s l k like ss v w is. (body-alike n texts s l k like ss).ends v w is
