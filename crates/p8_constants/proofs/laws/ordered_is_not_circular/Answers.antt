use Rattle.p8_constants.proofs.Ordering.{not_circular}
use Rattle.p8_constants.proofs.laws.ordered_is_not_circular.Goals as goal

pub returns : goal.returns
returns g c = λ k. not_circular k g.O.Order.Among g.O.Order.rank
