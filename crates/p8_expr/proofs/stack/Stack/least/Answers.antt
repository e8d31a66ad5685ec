use Rattle.p8_expr.specs.Views.{frames_in}
use Rattle.p8_expr.proofs.Measures.{least_is}
use Rattle.p8_expr.proofs.stack.Stack.least.Goals as goal

pub returns : goal.returns
returns c = λ h e. least_is (frames_in c.args.self.now) h c.args.high c.bounds.result.base c.bounds.result.depth _ c.bounds.ensures.base c.bounds.ensures.depth e c.least.ensures
