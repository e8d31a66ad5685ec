use Rattle.std.proofs.Common.{ap, subst, ℕ, List}
use Rattle.p8_access.specs.Worlds.{World, Line}
use Rattle.p8_ledger.specs.Waiting.{IsDecided, IsSpanFrom}
use Rattle.p8_ledger.proofs.Choosing.{first-decided}
use Rattle.p8_ledger.proofs.ledger.Ledger.first_by_spans.Goals as goal

pub returns-in-None-clause-first : goal.returns-in-None-clause-first
returns-in-None-clause-first c = λ w r script found.
    first-decided w r c.first_in-key.result c.span_near.result.end (c.first_in-key.ensures.first w r found (subst (λ (l : List Line). IsSpanFrom l c.spans.from c.span_near.result) script c.span_near.ensures.same) (c.spans.invariant.waits w r script found))
    (subst (λ (m : ℕ). IsDecided c.first_in-key.result.clock c.span_near.result.end m) (ap (λ (w : World). w.clocks) found.world) c.in-None.ensures)
