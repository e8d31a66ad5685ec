use Rattle.p8_constants.proofs.Ordering.{lower_not_circular}
use Rattle.p8_constants.proofs.laws.lower_is_not_circular.Goals as goal

pub returns : goal.returns
returns g c = λ k. lower_not_circular k g.L.Layers.Among g.L.Layers.layer
