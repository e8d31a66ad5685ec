use Rattle.std.proofs.Common.{length}
use Rattle.p8_crew.proofs.jobs.Crew.+put_all.Given as goal

abbrev pub decreases-put_all : goal.decreases-put_all
decreases-put_all l = length l.jobs.items
