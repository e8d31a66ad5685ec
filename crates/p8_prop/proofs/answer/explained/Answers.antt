use Rattle.std.proofs.Common.{◌∙◌, sym, ap, refl}
use Rattle.p8_prop.specs.Answers.{text_if_any}
use Rattle.p8_prop.proofs.Answering.{without-explanation, without-memory-told}
use Rattle.p8_prop.proofs.answer.explained.Goals as goal

pub returns-in-Ok-None-clause-ended : goal.returns-in-Ok-None-clause-ended
returns-in-Ok-None-clause-ended g c command explains =
    without-explanation command c.args.stop.now _ _ c.stopped.result explains (sym c.in-Ok-None.ensures ∙ ap text_if_any c.in-Ok-None.field-0-is) c.stopped.ensures.status refl c.stopped.ensures.wrote

pub returns-in-Err-clause-ended : goal.returns-in-Err-clause-ended
returns-in-Err-clause-ended g c command explains =
    without-memory-told command c.args.stop.now _ _ c.stopped-in-Err.result c.stopped-in-Err.ensures.status refl c.stopped-in-Err.ensures.wrote
