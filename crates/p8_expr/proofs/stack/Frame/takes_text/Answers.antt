use Rattle.p8_expr.proofs.BegunFrames.{frame_text, no_frame_text}
use Rattle.p8_expr.proofs.stack.Frame.takes_text.Goals as goal

pub returns-in-Inside : goal.returns-in-Inside
returns-in-Inside c = frame_text c.args.self.now _ _ _ c.takes_text.result c.in-Inside.is c.takes_text.ensures

pub returns-in_default : goal.returns-in_default
returns-in_default c = no_frame_text c.args.self.now c.in_default.not-Inside
