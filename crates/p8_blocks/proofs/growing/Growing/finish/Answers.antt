use Rattle.p8_blocks.proofs.Finishing.{finished_none, finished_some}
use Rattle.p8_blocks.proofs.growing.Growing.finish.Goals as goal

pub returns-in_ok-push-in-Some : goal.returns-in_ok-push-in-Some
returns-in_ok-push-in-Some c = λ x s. finished_some x c.args.self c.in-Some.last c.in_ok-into_block-in-Some.field-0 _ s c.in-Some.is c.in_ok-into_block-in-Some.ensures c.in_ok-push-in-Some.ensures.ok

pub returns-in-None : goal.returns-in-None
returns-in-None c = λ x s. finished_none x c.args.self s c.in-None.is
