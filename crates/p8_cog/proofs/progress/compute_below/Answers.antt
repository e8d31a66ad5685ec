use Rattle.std.proofs.Common.{◌≡◌, ℕ, ◌+◌, ◌-◌, [], arith, refl, subst}
use Rattle.p8_cog.specs.Replay.{Goes, instruction, played}
use Rattle.p8_cog.specs.Replaying.{paced}
use Rattle.p8_cog.specs.Reaching.{strides}
use Rattle.p8_cog.specs.Stops.{Leads}
use Rattle.p8_cog.specs.Keeping.{leads-more}
use Rattle.p8_cog.proofs.progress.compute_below.Goals as goal

pub loop-left-preserved : goal.loop-left-preserved
loop-left-preserved c =
    let goes : (cog : ℕ) → played (instruction cog c.loop-left.state) [] ≡ Goes c.run_apart.new.self [] = c.if-not-run_apart.ensures.done refl in
    let one : c.args.budget - c.loop-left.left + 1 ≡ c.args.budget - (c.loop-left.left - 1) = omega (arith, c.loop-left.invariant.left, c.loop-left-test.true) in
    record {
      left = omega (arith, c.loop-left.invariant.left);
      leads = λ cog. subst (λ (done : ℕ). Leads cog done (Goes c.args.state.now []) (Goes c.run_apart.new.self [])) one
          (leads-more _ _ _ _ _ (c.loop-left.invariant.leads cog) (goes cog));
      at = c.if-not-run_apart.ensures.at;
      clock = c.if-not-run_apart.ensures.clock;
      counts = omega (arith, one, c.loop-left.invariant.counts, paced 0 c.loop-left.state c.run_apart.new.self (goes 0));
      stride = omega (arith, one, c.loop-left.invariant.stride, strides 0 c.loop-left.state c.run_apart.new.self (goes 0));
    }
