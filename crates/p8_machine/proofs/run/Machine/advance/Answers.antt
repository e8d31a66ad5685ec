use Rattle.std.proofs.Common.{◌∙◌, sym, subst}
use Rattle.p8_access.specs.declared.order.Turn.{Turn}
use Rattle.p8_access.specs.Histories.{Extends}
use Rattle.p8_cog.specs.Lives.{asks}
use Rattle.p8_machine.specs.Machines.{world_in, past_in}
use Rattle.p8_machine.proofs.Announced.{same-turn}
use Rattle.p8_machine.proofs.run.Machine.advance.Goals as goal

pub returns-in-Some-clause-extends : goal.returns-in-Some-clause-extends
returns-in-Some-clause-extends c = λ stands goes_on turn past.
    let made = c.in-Some.ensures.counted stands in
    subst (λ (t : Turn). Extends asks (world_in c.args.self.now) (past_in c.args.self.now) t) (sym (same-turn turn made.0 (past_in c.args.self.now) (sym past ∙ made.1))) made.2
