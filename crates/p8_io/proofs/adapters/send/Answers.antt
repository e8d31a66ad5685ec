use Rattle.std.proofs.Common.{arith, refl}
use Rattle.std.proofs.lemmas.Grind.{common_steps}
use Rattle.p8_io.proofs.Streams.{sent-more, sent-prefix, prefix-kept}
use Rattle.p8_io.proofs.adapters.send.Goals as goal

pub turns-preserved : goal.turns-preserved
turns-preserved g c =
    sent-more _ _ _ c.args.bytes.now c.turns.rest.now _ c.in-Ok.taken c.turns.invariant c.in-Ok.ensures.bytes (grind (arith, common_steps))

pub returns-in-Ok-eq0-clause-prefix : goal.returns-in-Ok-eq0-clause-prefix
returns-in-Ok-eq0-clause-prefix g c =
    sent-prefix _ _ c.args.bytes.now _ (sent-more _ _ _ c.args.bytes.now c.turns.rest.now _ c.in-Ok-eq0.field-0 c.turns.invariant c.in-Ok-eq0.ensures.bytes refl)

pub returns-in-Err-clause-prefix : goal.returns-in-Err-clause-prefix
returns-in-Err-clause-prefix g c = prefix-kept _ _ _ c.args.bytes.now c.turns.rest.now c.turns.invariant c.in-Err.ensures.bytes

pub returns-clause-prefix : goal.returns-clause-prefix
returns-clause-prefix g c = prefix-kept _ _ _ c.args.bytes.now c.turns.rest.now c.turns.invariant c.flush.ensures.bytes
