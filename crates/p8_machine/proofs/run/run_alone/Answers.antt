use Rattle.std.proofs.Common.{◌∙◌, sym, reverse}
use Rattle.p8_access.proofs.OneHistory.{one-history, begins-ended}
use Rattle.p8_access.proofs.Rising.{rises}
use Rattle.p8_cog.specs.Lives.{asks}
use Rattle.p8_cog.specs.Laws.{one-asked, asked-first, asked-later}
use Rattle.p8_ledger.specs.Worlds.{world_of}
use Rattle.p8_machine.proofs.run.run_alone.Goals as goal

pub returns-clause-ended : goal.returns-clause-ended
returns-clause-ended c =
    let world = c.run.ensures.world ∙ c.in_ok-machine.ensures.world in
    let stands = c.run.ensures.stands c.in_ok-machine.ensures.stands in
    rw (c.end.ensures.past, sym world) (c.end.ensures.ended stands)

pub returns-clause-only : goal.returns-clause-only
returns-clause-only c = λ past ended.
    one-history asks (world_of c.args.boot c.args.script c.args.limits) one-asked past (reverse c.end.result.history.turns.list) ended (returns-clause-ended c)

pub returns-clause-rises : goal.returns-clause-rises
returns-clause-rises c =
    rises asks (world_of c.args.boot c.args.script c.args.limits) one-asked asked-first asked-later (reverse c.end.result.history.turns.list) (returns-clause-ended c).legal

pub returns-clause-begins_each : goal.returns-clause-begins_each
returns-clause-begins_each c = λ past legal.
    begins-ended asks (world_of c.args.boot c.args.script c.args.limits) one-asked (reverse c.end.result.history.turns.list) past (returns-clause-ended c) legal
