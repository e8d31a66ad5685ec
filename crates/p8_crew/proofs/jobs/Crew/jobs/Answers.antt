use Rattle.std.proofs.Common.{◌∙◌, ◌+◌, ap, sym, subst, refl, ℕ, length, arith}
use Rattle.p8_crew.specs.Crews.{AreJobs, IsJob, AreThere}
use Rattle.p8_desk.specs.Passes.{DeskValue}
use Rattle.p8_crew.proofs.Places.{all-are-there, one-more-job, count-last}
use Rattle.p8_crew.proofs.jobs.Crew.jobs.Goals as goal

pub loop-cog-init : goal.loop-cog-init
loop-cog-init c =
    let items = c.in_ok-jobs.ensures.items in record {
      desk = refl;
      near = omega arith;
      are = subst (AreJobs c.args.self.now.desk.value 0) (sym items) tt;
      count = ap length items;
      there = all-are-there c.args.self.now.desk.value c.args.self.now.passes c.requires;
    }

pub loop-cog-preserved : goal.loop-cog-preserved
loop-cog-preserved c =
    let inv = c.loop-cog.invariant in
    let below = c.loop-cog-test.true in
    let items = c.in-Ok.ensures.items in
    let desk = c.args.self.now.desk.value in
    let is = subst (λ (d : DeskValue). IsJob d c.loop-cog.cog c.in_ok-job.job) inv.desk c.in_ok-job.ensures.job in
    let count = inv.count in
    let last = count-last c.push.new.self.items c.loop-cog.jobs.items c.in_ok-job.job items in record {
      desk = c.job.ensures.desk ∙ inv.desk;
      near = omega (arith, below);
      are = subst (AreJobs desk 0) (sym items) (one-more-job desk 0 c.loop-cog.jobs.items c.in_ok-job.job inv.are (subst (λ (m : ℕ). IsJob desk m c.in_ok-job.job) (omega (arith, count)) is));
      count = omega (arith, last, count);
      there = subst (λ (d : DeskValue). AreThere d (c.loop-cog.cog + 1) 8 c.job.new.self.passes) inv.desk c.in_ok-job.ensures.left;
    }
