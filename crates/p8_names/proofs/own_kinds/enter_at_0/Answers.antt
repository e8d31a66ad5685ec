use Rattle.p8_names.proofs.Putting.{on_ok}
use Rattle.p8_names.proofs.OwnNames.{one_entered}
use Rattle.p8_names.proofs.own_kinds.enter_at_0.Goals as goal

pub returns : goal.returns
returns c = on_ok c.enter.result (λ h. one_entered _ _ h) c.enter.ensures
