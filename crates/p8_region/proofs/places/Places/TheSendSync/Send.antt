use denote.RattleType.{RattleType}
use denote.Param.Send.{IsSend}
use Rattle.p8_region.proofs.Crosses.{Places-send}
use Rattle.p8_region.specs.contracts.places.Places.{the_row}

pub send : (R : RattleType) → IsSend R → IsSend (the_row R)
send = Places-send
