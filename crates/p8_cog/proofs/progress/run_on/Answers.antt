use Rattle.std.proofs.Common.{arith}
use Rattle.p8_cog.specs.Keeping.{quiet-from}
use Rattle.p8_cog.proofs.progress.run_on.Goals as goal

pub returns-then-state-until-clause-stops : goal.returns-then-state-until-clause-stops
returns-then-state-until-clause-stops c = quiet-from c.args.cog c.args.until c.compute_below-left.new.state (omega arith)
