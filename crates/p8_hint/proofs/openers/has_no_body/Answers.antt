use Rattle.std.proofs.Common.{◌∙◌}
use Rattle.p8_hint.proofs.Following.{arm_without}
use Rattle.p8_hint.proofs.openers.has_no_body.Goals as goal

pub returns : goal.returns
returns c = c.is_empty.ensures ∙ arm_without c.args.arm.now c.deref.result.now c.deref.ensures.value
