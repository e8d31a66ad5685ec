use Rattle.p8_crew.proofs.Places.{of-ticket, jobs-before, last-back, last-cog, last-owns, is-next, all-back}
use Rattle.p8_crew.proofs.jobs.Crew.+run.Goals as goal

pub start-requires-after_bounds : goal.start-requires-after_bounds
start-requires-after_bounds g t c κs within =
    last-owns c.args.self.now.desk.value c.args.jobs.items c.pop.new.self.items c.in-Some.job c.requires.jobs.0 c.in-Some.ensures.items

pub run-all-requires-clause-jobs : goal.run-all-requires-clause-jobs
run-all-requires-clause-jobs g t c κs within =
    jobs-before c.args.self.now.desk.value c.args.jobs.items c.pop.new.self.items c.in-Some.job c.requires.jobs.0 c.requires.jobs.1 c.in-Some.ensures.items

pub put-requires-clause-there : goal.put-requires-clause-there
put-requires-clause-there g t c =
    let back = of-ticket c.in-Ok.ticket c.in-Some.job.pass c.join.result c.in-Ok.ensures.started c.join.ensures in
    let cog = last-cog c.args.self.now.desk.value c.args.jobs.items c.pop.new.self.items c.in-Some.job c.join.result c.requires.jobs.0 c.in-Some.ensures.items back in
    is-next c.args.self.now.desk.value c.run-all.new.self.desk.value c.pop.new.self.items c.join.result.cog c.run-all.new.self.passes c.run-all.ensures.desk cog c.run-all.ensures.there

pub put-requires-clause-pass : goal.put-requires-clause-pass
put-requires-clause-pass g t c =
    let back = of-ticket c.in-Ok.ticket c.in-Some.job.pass c.join.result c.in-Ok.ensures.started c.join.ensures in
    last-back c.args.self.now.desk.value c.run-all.new.self.desk.value c.args.jobs.items c.pop.new.self.items c.in-Some.job c.join.result c.requires.jobs.0 c.requires.jobs.1 c.in-Some.ensures.items c.run-all.ensures.desk back

pub put_all-requires-clause-jobs : goal.put_all-requires-clause-jobs
put_all-requires-clause-jobs g t c =
    jobs-before c.args.self.now.desk.value c.args.jobs.items c.pop.new.self.items c.in-Some.job c.requires.jobs.0 c.requires.jobs.1 c.in-Some.ensures.items

pub put-requires-in-Err-clause-there : goal.put-requires-in-Err-clause-there
put-requires-in-Err-clause-there g t c =
    let cog = last-cog c.args.self.now.desk.value c.args.jobs.items c.pop.new.self.items c.in-Some.job c.in-Err.pass c.requires.jobs.0 c.in-Some.ensures.items c.in-Err.ensures.back in
    is-next c.args.self.now.desk.value c.put_all.new.self.desk.value c.pop.new.self.items c.in-Err.pass.cog c.put_all.new.self.passes c.put_all.ensures.desk cog c.put_all.ensures.there

pub put-requires-in-Err-clause-pass : goal.put-requires-in-Err-clause-pass
put-requires-in-Err-clause-pass g t c =
    last-back c.args.self.now.desk.value c.put_all.new.self.desk.value c.args.jobs.items c.pop.new.self.items c.in-Some.job c.in-Err.pass c.requires.jobs.0 c.requires.jobs.1 c.in-Some.ensures.items c.put_all.ensures.desk c.in-Err.ensures.back

pub returns-in-Ok-clause-there : goal.returns-in-Ok-clause-there
returns-in-Ok-clause-there g t c =
    let back = of-ticket c.in-Ok.ticket c.in-Some.job.pass c.join.result c.in-Ok.ensures.started c.join.ensures in
    let cog = last-cog c.args.self.now.desk.value c.args.jobs.items c.pop.new.self.items c.in-Some.job c.join.result c.requires.jobs.0 c.in-Some.ensures.items back in
    all-back c.args.self.now.desk.value c.run-all.new.self.desk.value c.args.jobs.items c.pop.new.self.items c.in-Some.job c.join.result.cog c.put.new.self.passes c.run-all.ensures.desk c.in-Some.ensures.items cog c.put.ensures.there

pub returns-in-Err-clause-there : goal.returns-in-Err-clause-there
returns-in-Err-clause-there g t c =
    let cog = last-cog c.args.self.now.desk.value c.args.jobs.items c.pop.new.self.items c.in-Some.job c.in-Err.pass c.requires.jobs.0 c.in-Some.ensures.items c.in-Err.ensures.back in
    all-back c.args.self.now.desk.value c.put_all.new.self.desk.value c.args.jobs.items c.pop.new.self.items c.in-Some.job c.in-Err.pass.cog c.put-in-Err.new.self.passes c.put_all.ensures.desk c.in-Some.ensures.items cog c.put-in-Err.ensures.there
