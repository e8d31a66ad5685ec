use Rattle.std.proofs.Common.{sym, subst, ℕ}
use Rattle.p8_access.specs.declared.lives.Next.{Next}
use Rattle.p8_access.specs.declared.states.CogState.{CogState}
use Rattle.p8_access.specs.Hub.{cog_state}
use Rattle.p8_ledger.specs.Fronts.{IsFront}
use Rattle.p8_ledger.proofs.Rows.{got-item}
use Rattle.p8_ledger.proofs.fronts.Fronts.renew.Goals as goal

pub returns-clause-own : goal.returns-clause-own
returns-clause-own c = λ w past said hub at. (
  c.front_of-front.result.test,
  subst (λ (u : ℕ). IsFront c.args.cog c.args.until (cog_state w past c.args.cog) said u c.front_of-front.result.test) (sym c.put.ensures.own)
      (subst (λ (s : CogState). IsFront c.args.cog c.args.until s said c.front_of-front.result.clock c.front_of-front.result.test) (c.state.ensures w past hub)
      (subst (λ (s : Next). IsFront c.args.cog c.args.until c.state.result s c.front_of-front.result.clock c.front_of-front.result.test) (sym (got-item c.args.sayings.now c.args.cog said _ at)) c.front_of-front.ensures)),
)
