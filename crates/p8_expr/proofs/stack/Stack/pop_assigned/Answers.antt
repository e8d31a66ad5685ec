use Rattle.std.proofs.Common.{ap}
use Rattle.p8_grammar.specs.Machine.{assigned}
use Rattle.p8_expr.specs.Views.{frames_in}
use Rattle.p8_expr.proofs.BegunFrames.{popped_assigned}
use Rattle.p8_expr.proofs.stack.Stack.pop_assigned.Goals as goal

pub returns-in-Some : goal.returns-in-Some
returns-in-Some c = popped_assigned c.into_assigned.result c.in-Some.level c.args.self.now c.pop.new.self c.in-Some.ensures.0 (c.into_assigned.ensures c.in-Some.ensures.2)

pub returns-in-None : goal.returns-in-None
returns-in-None c = λ s. ap (λ xs. assigned s (frames_in xs)) c.in-None.ensures.0
