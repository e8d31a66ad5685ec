use Rattle.std.proofs.Common.{sym, subst}
use Rattle.p8_access.specs.declared.states.CogState.{CogState}
use Rattle.p8_ledger.specs.Fronts.{IsFront}
use Rattle.p8_ledger.proofs.fronts.front_of.Goals as goal

pub returns-in-Starting : goal.returns-in-Starting
returns-in-Starting c =
    subst (λ (s : CogState). IsFront c.args.cog c.args.until s c.args.said c.starting_front.result.clock c.starting_front.result.test) (sym c.in-Starting.is)
    (c.starting_front.ensures c.in-Starting.origin c.args.said)
