use Rattle.std.proofs.Common.{sym, subst, ℕ}
use Rattle.p8_ledger.specs.Fronts.{IsSaidFront}
use Rattle.p8_ledger.proofs.fronts.Fronts.say.Goals as goal

pub returns-clause-own : goal.returns-clause-own
returns-clause-own c = (
  c.said_front-front.result.test,
  subst (λ (u : ℕ). IsSaidFront c.args.until c.args.said u c.said_front-front.result.test) (sym c.put.ensures.own) c.said_front-front.ensures,
)
