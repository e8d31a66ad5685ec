use Rattle.p8_access.proofs.OneHistory.{begins-ended}
use Rattle.p8_access.proofs.history_laws.each_legal_past_begins_it.Goals as goal

pub returns : goal.returns
returns g c = λ w h past p q. begins-ended g.L.Life.asked w g.met.L.Life.one_asked h past p q
