use Rattle.std.proofs.Common.{refl}
use Rattle.p8_prop.proofs.Answering.{with-explanation, not-explained}
use Rattle.p8_prop.proofs.answer.written.Goals as goal

pub returns-in-Ok-clause-ended : goal.returns-in-Ok-clause-ended
returns-in-Ok-clause-ended g c command explains is =
    with-explanation command c.args.stop.now _ _ c.status_of_stop.result c.args.text.now explains is c.status_of_stop.ensures c.in-Ok.ensures.writes refl

pub returns-in-Err-clause-ended : goal.returns-in-Err-clause-ended
returns-in-Err-clause-ended g c command explains is =
    not-explained command c.args.stop.now _ _ c.unwritten.result c.args.text.now explains is c.unwritten.ensures.status c.in-Err.ensures.writes.0 c.in-Err.ensures.writes.1 c.unwritten.ensures.wrote
