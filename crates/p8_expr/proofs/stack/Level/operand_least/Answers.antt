use Rattle.std.proofs.Common.{subst}
use Rattle.p8_expr.specs.Views.{frame_of, Alone}
use Rattle.p8_expr.proofs.BegunFrames.{least_below, least_with}
use Rattle.p8_expr.proofs.stack.Level.operand_least.Goals as goal

pub returns-in-Some : goal.returns-in-Some
returns-in-Some c = λ k high low deep left.
    least_below c.args.self.now k _ _ low deep (subst (λ o. Alone o (frame_of c.args.self.now.frame) k) c.in-Some.is (c.least_alone.ensures left k)) c.least.ensures

pub returns-in-None : goal.returns-in-None
returns-in-None c = λ k high low deep left.
    least_with c.args.self.now k _ _ _ high low deep (subst (λ o. Alone o (frame_of c.args.self.now.frame) k) c.in-None.is (c.least_alone.ensures left k))
    c.bounds.ensures.depth c.bounds.ensures.base c.least-in-None.ensures
