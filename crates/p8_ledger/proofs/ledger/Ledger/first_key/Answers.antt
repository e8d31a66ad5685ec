use Rattle.std.proofs.Common.{subst, Option}
use Rattle.p8_access.specs.declared.kinds.Test.{Test}
use Rattle.p8_access.specs.Hub.{cog_state}
use Rattle.p8_ledger.specs.Fronts.{IsFront}
use Rattle.p8_ledger.specs.Records.{turns, said}
use Rattle.p8_ledger.proofs.Choosing.{fast-first}
use Rattle.p8_ledger.proofs.ledger.Ledger.first_key.Goals as goal

pub returns-in-None-clause-first : goal.returns-in-None-clause-first
returns-in-None-clause-first c = λ w r script found.
    fast-first w r found.others c.args.self.now.fronts.clocks c.first_front-key.result c.first_front-key.ensures found.fronts c.front.result.clock
    (subst (λ (t : Option Test). IsFront c.first_front-key.result.cog w.clocks (cog_state w (turns r) c.first_front-key.result.cog) (said c.first_front-key.result.cog r) c.front.result.clock t) c.in-None.is (c.front.ensures w r found))
