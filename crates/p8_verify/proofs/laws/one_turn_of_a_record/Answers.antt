use Rattle.std.proofs.Common.{◌++◌, refl}
use Rattle.p8_verify.specs.Table.{turn_bytes}
use Rattle.p8_verify.proofs.Back.{one-record}
use Rattle.p8_verify.proofs.laws.one_turn_of_a_record.Goals as goal

pub returns : goal.returns
returns c = λ t u x y within also same. one-record (turn_bytes t ++ x) t u x y (record { within = within; bytes_are = refl }) (record { within = also; bytes_are = same })
