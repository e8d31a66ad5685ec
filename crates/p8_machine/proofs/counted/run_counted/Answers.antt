use Rattle.std.proofs.Common.{◌≡◌, ◌∙◌, sym, subst, List, reverse}
use Rattle.p8_access.specs.declared.order.Turn.{Turn}
use Rattle.p8_access.specs.Worlds.{World}
use Rattle.p8_access.specs.Histories.{Ended as HasEnded}
use Rattle.p8_cog.specs.Lives.{asks}
use Rattle.p8_ledger.specs.Worlds.{world_of}
use Rattle.p8_machine.specs.Machines.{world_in}
use Rattle.p8_machine.specs.Counted.{AreAsked}
use Rattle.p8_machine.proofs.counted.run_counted.Goals as goal

pub returns-clause-ended : goal.returns-clause-ended
returns-clause-ended c =
    let world : world_in c.count_turns.new.machine ≡ world_of c.args.boot c.args.script c.args.limits = c.in_ok-counters.ensures.world ∙ c.in_ok-machine.ensures.world in
    subst (λ (w : World). HasEnded asks w (reverse c.end.result.history.turns.list)) world
    (subst (λ (past : List Turn). HasEnded asks (world_in c.count_turns.new.machine) past) (sym c.end.ensures.past) (c.end.ensures.ended c.in_ok-counters.ensures.stands))

pub returns-clause-asked : goal.returns-clause-asked
returns-clause-asked c =
    let world : world_in c.count_turns.new.machine ≡ world_of c.args.boot c.args.script c.args.limits = c.in_ok-counters.ensures.world ∙ c.in_ok-machine.ensures.world in
    subst (λ (w : World). AreAsked w (reverse c.end.result.history.turns.list) c.next_accesses-asked.result) world
    (subst (λ (past : List Turn). AreAsked (world_in c.count_turns.new.machine) past c.next_accesses-asked.result) (sym c.end.ensures.past)
    (c.next_accesses-asked.ensures.length, c.next_accesses-asked.ensures.each c.in_ok-counters.ensures.stands))
