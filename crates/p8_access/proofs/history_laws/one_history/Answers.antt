use Rattle.p8_access.proofs.OneHistory.{one-history}
use Rattle.p8_access.proofs.history_laws.one_history.Goals as goal

pub returns : goal.returns
returns g c = λ w h k p q. one-history g.L.Life.asked w g.met.L.Life.one_asked h k p q
