use Rattle.p8_ledger.proofs.Settling.{start-sits}
use Rattle.p8_ledger.proofs.laws.turn_of_a_start.Goals as goal

pub returns : goal.returns
returns g c = λ life said w past turn n since origin own state access lives.
    start-sits g.L.Life.asked (g.L.Life.stands life) said w past turn n own since origin state access (λ room begin runs. lives begin)
