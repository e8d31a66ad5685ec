use Rattle.std.proofs.Common.{[]}
use Rattle.p8_cog.specs.Replay.{Goes}
use Rattle.p8_cog.proofs.Leading.{leads-on, spent-on}
use Rattle.p8_cog.proofs.progress.run.Goals as goal

pub returns-clause-leads : goal.returns-clause-leads
returns-clause-leads c =
    leads-on c.args.cog c.jump_below-jumped.result c.run_on-ran.result.done (Goes c.args.state.now []) (Goes c.jump_below-jumped.new.state []) (Goes c.run_on-ran.new.state [])
    (c.jump_below-jumped.ensures.leads c.args.cog) c.run_on-ran.ensures.leads

pub returns-clause-spent : goal.returns-clause-spent
returns-clause-spent c =
    spent-on c.jump_below-jumped.result c.run_on-ran.result.done c.args.budget c.run_on-ran.new.state.clock c.args.until c.run_on-ran.result.next
    c.jump_below-jumped.ensures.budget c.run_on-ran.ensures.spent
