use Rattle.p8_cog.specs.WholeLives.{stands_for}
use Rattle.p8_ledger.proofs.Telling.{beside-sits}
use Rattle.p8_ledger.proofs.laws.steps_beside.Goals as goal

pub returns : goal.returns
returns c = λ life next w early late n begins same sits. beside-sits (stands_for life) next w early late n begins same sits
