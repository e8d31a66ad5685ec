use Rattle.std.proofs.Common.{◌≡◌, ◌∙◌, ap, sym, subst, ◌<◌, arith}
use Rattle.std.proofs.lemmas.Option.{IfSome_then}
use Rattle.p8_access.specs.declared.kinds.Origin.{Origin}
use Rattle.p8_access.specs.declared.order.Key.{Key}
use Rattle.p8_access.specs.declared.states.CogState.TheVariants.{Running}
use Rattle.p8_access.specs.Worlds.{World}
use Rattle.p8_access.specs.Hub.{cog_state}
use Rattle.p8_ledger.specs.Records.{turns, IsLeastFront}
use Rattle.p8_ledger.proofs.Granting.{plain-least}
use Rattle.p8_ledger.proofs.ledger.Ledger.plain.Goals as goal

pub returns-in-Running-clause-least : goal.returns-in-Running-clause-least
returns-in-Running-clause-least c = λ w r found.
    let limit : c.args.self.now.limits.clocks ≡ w.clocks = ap (λ (w : World). w.clocks) found.world in
    let below : c.first_front-key.result.clock < w.clocks = omega arith in
    let state : cog_state w (turns r) c.first_front-key.result.cog ≡ Running c.in-Running.origin = sym (c.state.ensures w (turns r) found.hub) ∙ c.in-Running.is in
    IfSome_then c.plain_at.result c.plain_at.ensures
    (λ it is.
    subst (λ (k : Key). ((x : Origin) × (cog_state w (turns r) k.cog ≡ Running x)) × IsLeastFront w r k) (sym is.0)
    ((c.in-Running.origin, state), plain-least w r c.first_front-key.result c.in-Running.origin state c.args.self.now found c.first_front-key.ensures below is.1))
