use Rattle.p8_access.proofs.Rising.{rises}
use Rattle.p8_access.proofs.history_laws.keys_rise.Goals as goal

pub returns : goal.returns
returns g c = λ w h legal. rises g.L.Life.asked w g.met.L.Life.one_asked g.met.L.Life.asked_first g.met.L.Life.asked_later h legal
