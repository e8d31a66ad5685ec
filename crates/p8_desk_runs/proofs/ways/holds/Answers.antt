use Rattle.p8_desk.proofs.Placing.{all-there-new}
use Rattle.p8_desk_runs.proofs.ways.holds.Goals as goal

pub makes_each_turn-requires : goal.makes_each_turn-requires
makes_each_turn-requires c = all-there-new c.in_ok-desk.desk c.in_ok-desk.passes c.in_ok-desk.ensures.passes

pub promises_in_turn-requires : goal.promises_in_turn-requires
promises_in_turn-requires c = all-there-new c.in_ok-desk.desk c.in_ok-desk.passes c.in_ok-desk.ensures.passes
