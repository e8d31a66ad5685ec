use Rattle.std.proofs.Common.{refl}
use Rattle.p8_crew.proofs.Places.{one-put}
use Rattle.p8_crew.proofs.jobs.Crew.put.Goals as goal

pub returns-clause-there : goal.returns-clause-there
returns-clause-there c =
    one-put c.args.self.now.desk.value c.args.self.now.passes c.put.new.passes c.args.pass.cog c.args.pass c.requires.there c.requires.pass.1 c.requires.pass.0 refl c.put.ensures
