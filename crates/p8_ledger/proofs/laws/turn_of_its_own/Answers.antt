use Rattle.p8_ledger.proofs.Seating.{own-sits}
use Rattle.p8_ledger.proofs.laws.turn_of_its_own.Goals as goal

pub returns : goal.returns
returns g c = λ old new said says w past turn n own made keeps tells sits.
    own-sits g.L.Life.asked (g.L.Life.stands old) (g.L.Life.stands new) said says w past turn n own made keeps tells sits
