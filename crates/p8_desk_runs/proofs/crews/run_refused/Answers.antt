use Rattle.p8_desk.proofs.Placing.{all-there-new}
use Rattle.p8_desk_runs.proofs.crews.run_refused.Goals as goal

pub run_crew-requires-after_bounds : goal.run_crew-requires-after_bounds
run_crew-requires-after_bounds g c κs within = all-there-new c.in_ok-desk.desk c.in_ok-desk.passes c.in_ok-desk.ensures.passes
