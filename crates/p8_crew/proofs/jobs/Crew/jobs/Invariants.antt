use Rattle.std.proofs.Common.{◌≡◌, ◌≤◌, length}
use Rattle.p8_crew.specs.Crews.{AreJobs, AreThere}
use Rattle.p8_crew.proofs.jobs.Crew.jobs.Given as goal

abbrev pub invariant-loop-cog : goal.invariant-loop-cog
invariant-loop-cog l = record {
  desk : l.self.desk.value ≡ l.fn.self.desk.value;
  near : l.cog ≤ 8;
  are : AreJobs l.fn.self.desk.value 0 l.jobs.items;
  count : length l.jobs.items ≡ l.cog;
  there : AreThere l.fn.self.desk.value l.cog 8 l.self.passes;
}
