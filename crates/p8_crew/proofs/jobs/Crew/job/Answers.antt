use Rattle.p8_crew.proofs.Places.{one-taken, taken-owns}
use Rattle.p8_crew.proofs.jobs.Crew.job.Goals as goal

pub returns-clause-job : goal.returns-clause-job
returns-clause-job c =
    let pass = taken-owns c.args.self.now.desk.value c.args.self.now.passes c.args.cog c.take-pass.result c.requires.there c.requires.near c.take-pass.ensures.taken in
    record { desk_is = c.in_ok-desk.ensures; owns = pass.0; cog = pass.1 }

pub returns-clause-left : goal.returns-clause-left
returns-clause-left c =
    one-taken c.args.self.now.desk.value c.args.self.now.passes c.take-pass.new.passes c.args.cog c.requires.there c.requires.near c.take-pass.ensures.left
