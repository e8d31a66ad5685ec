use Rattle.std.proofs.Common.{length}
use Rattle.p8_crew.proofs.jobs.Crew.+run.Given as goal

abbrev pub decreases-run : goal.decreases-run
decreases-run g l = length l.jobs.items
