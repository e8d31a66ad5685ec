use denote.RattleType.{RattleType}
use denote.Param.Send.{IsSync}
use Rattle.p8_region.proofs.Crosses.{Places-sync}
use Rattle.p8_region.specs.contracts.places.Places.{the_row}

pub sync : (R : RattleType) → IsSync R → IsSync (the_row R)
sync = Places-sync
