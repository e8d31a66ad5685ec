use Rattle.std.proofs.Common.{[], arith, refl}
use Rattle.p8_cog.specs.Replay.{Goes}
use Rattle.p8_cog.specs.Replaying.{paced}
use Rattle.p8_cog.specs.Reaching.{strides}
use Rattle.p8_cog.specs.Keeping.{leads-more}
use Rattle.p8_cog.proofs.Leading.{leads-none}
use Rattle.p8_cog.proofs.progress.jump_below.Goals as goal

pub returns-clause-leads : goal.returns-clause-leads
returns-clause-leads c = λ cog.
    leads-more cog 0 (Goes c.args.state.now []) c.args.state.now c.run_apart.new.self (leads-none cog (Goes c.args.state.now [])) (c.if-not-run_apart.ensures.done refl cog)

pub returns-clause-counts : goal.returns-clause-counts
returns-clause-counts c = omega (arith, paced 0 c.args.state.now c.run_apart.new.self (c.if-not-run_apart.ensures.done refl 0))

pub returns-clause-stride : goal.returns-clause-stride
returns-clause-stride c = omega (arith, strides 0 c.args.state.now c.run_apart.new.self (c.if-not-run_apart.ensures.done refl 0))
