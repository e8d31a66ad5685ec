use Rattle.p8_ledger.proofs.Seating.{other-sits}
use Rattle.p8_ledger.proofs.laws.turn_beside.Goals as goal

pub returns : goal.returns
returns g c = λ life said w past turn n differ sits. other-sits g.L.Life.asked (g.L.Life.stands life) said w past turn n differ sits
