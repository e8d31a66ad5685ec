use Rattle.p8_desk.proofs.Placing.{all-there-new}
use Rattle.p8_desk_runs.proofs.ways.run.Goals as goal

pub drive-requires : goal.drive-requires
drive-requires g c = (c.type_bounds.sync-R, all-there-new c.in_ok-desk.desk c.in_ok-desk.passes c.in_ok-desk.ensures.passes)
