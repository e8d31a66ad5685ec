use Rattle.std.proofs.Common.{arith}
use Rattle.p8_crew.proofs.Places.{count-last, unchanged, jobs-before, last-back, last-cog, is-next, all-back}
use Rattle.p8_crew.proofs.jobs.Crew.+put_all.Goals as goal

pub put_all-requires : goal.put_all-requires
put_all-requires t c =
    let items = c.in-Some.ensures.items in
    let count = count-last c.args.jobs.items c.pop.new.self.items c.in-Some.job items in (
      omega (arith, count),
      (
        jobs-before c.args.self.now.desk.value c.args.jobs.items c.pop.new.self.items c.in-Some.job c.requires.jobs.0 c.requires.jobs.1 items,
        c.requires.out,
      ),
    )

pub put-requires-clause-there : goal.put-requires-clause-there
put-requires-clause-there t c =
    let cog = last-cog c.args.self.now.desk.value c.args.jobs.items c.pop.new.self.items c.in-Some.job c.in-Some.job.pass c.requires.jobs.0 c.in-Some.ensures.items (unchanged c.in-Some.job.pass) in
    is-next c.args.self.now.desk.value c.put_all.new.self.desk.value c.pop.new.self.items c.in-Some.job.pass.cog c.put_all.new.self.passes c.put_all.ensures.desk cog c.put_all.ensures.there

pub put-requires-clause-pass : goal.put-requires-clause-pass
put-requires-clause-pass t c =
    last-back c.args.self.now.desk.value c.put_all.new.self.desk.value c.args.jobs.items c.pop.new.self.items c.in-Some.job c.in-Some.job.pass c.requires.jobs.0 c.requires.jobs.1 c.in-Some.ensures.items c.put_all.ensures.desk
    (unchanged c.in-Some.job.pass)

pub returns-clause-there : goal.returns-clause-there
returns-clause-there t c =
    let cog = last-cog c.args.self.now.desk.value c.args.jobs.items c.pop.new.self.items c.in-Some.job c.in-Some.job.pass c.requires.jobs.0 c.in-Some.ensures.items (unchanged c.in-Some.job.pass) in
    all-back c.args.self.now.desk.value c.put_all.new.self.desk.value c.args.jobs.items c.pop.new.self.items c.in-Some.job c.in-Some.job.pass.cog c.put.new.self.passes c.put_all.ensures.desk c.in-Some.ensures.items cog
    c.put.ensures.there
