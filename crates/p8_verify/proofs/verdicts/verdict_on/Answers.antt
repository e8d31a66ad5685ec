use Rattle.std.proofs.Common.{◌∙◌, ap, subst, [], drop, ℕ, List}
use Rattle.p8_access.specs.Worlds.{World}
use Rattle.p8_ledger.specs.declared.outcome.Limits.{Limits}
use Rattle.p8_ledger.specs.Worlds.{world_of}
use Rattle.p8_machine.specs.Machines.{world_in}
use Rattle.p8_verify.specs.Told.{IsTold}
use Rattle.p8_verify.proofs.Walking.{of-head}
use Rattle.p8_verify.proofs.verdicts.verdict_on.Goals as goal

pub returns : goal.returns
returns c =
    of-head c.args.boot c.args.script c.args.bytes.now (drop 16 c.args.bytes.now) c.in-Some.head c.in-Some.ensures.head c.walk.result
    (subst (λ (w : World). IsTold w [] c.in-Some.head.count 1 (drop 16 c.args.bytes.now) c.walk.result) (c.in_ok-machine.ensures.world ∙ ap (λ (limits : Limits). world_of c.args.boot c.args.script limits) c.limits.ensures)
    (subst (λ (rest : List ℕ). IsTold (world_in c.in_ok-machine.machine) [] c.in-Some.head.count 1 rest c.walk.result) c.after_head-records.ensures c.walk.ensures))
