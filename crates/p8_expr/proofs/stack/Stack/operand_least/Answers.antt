use Rattle.std.proofs.Common.{sym, ap, ◌∙◌, refl}
use Rattle.std.specs.Prelude.{option_copied, min}
use Rattle.p8_grammar.specs.Least.{operand_least}
use Rattle.p8_expr.specs.Views.{frames_in}
use Rattle.p8_expr.proofs.Measures.{first_is}
use Rattle.p8_expr.proofs.BegunFrames.{least_nothing}
use Rattle.p8_expr.proofs.stack.Stack.operand_least.Goals as goal

pub returns-in-Some : goal.returns-in-Some
returns-in-Some c =
    let xs = c.args.self.now in
    let f = first_is c.in-Some.level.now xs (sym c.last.ensures.first ∙ ap option_copied c.in-Some.is) c.last.ensures.measured in
    c.operand_least.ensures (frames_in f.rest) f.high_is f.base_is f.depth_is f.left_is ∙ ap (λ xs. min 65 (operand_least (frames_in xs))) (sym f.is)

pub returns-in-None : goal.returns-in-None
returns-in-None c = least_nothing c.args.self.now 1 (sym c.last.ensures.first ∙ ap option_copied c.in-None.is) refl
