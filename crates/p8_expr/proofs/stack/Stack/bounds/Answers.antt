use Rattle.std.proofs.Common.{sym, ap, ◌∙◌}
use Rattle.std.specs.Prelude.{option_copied, min}
use Rattle.p8_grammar.specs.Least.{depth, base}
use Rattle.p8_expr.specs.Views.{frames_in}
use Rattle.p8_expr.proofs.Measures.{first_is, none_is, bounds_are}
use Rattle.p8_expr.proofs.stack.Stack.bounds.Goals as goal

pub returns-in-Some : goal.returns-in-Some
returns-in-Some c =
    let xs = c.args.self.now in
    let x = c.in-Some.level.now in
    let f = first_is x xs (sym c.last.ensures.first ∙ ap option_copied c.in-Some.is) c.last.ensures.measured in
    let b = bounds_are x xs c.bounds.result.base c.bounds.result.depth f c.bounds.ensures.depth c.bounds.ensures.base in
    record { base = b.0; depth = b.1; measured = c.last.ensures.measured }

pub returns-in-None : goal.returns-in-None
returns-in-None c =
    let none = sym (none_is c.args.self.now (sym c.last.ensures.first ∙ ap option_copied c.in-None.is)) in
    record {
      base = ap (λ xs. min 65 (base (frames_in xs))) none;
      depth = ap (λ xs. min 65 (depth (frames_in xs))) none;
      measured = c.last.ensures.measured;
    }
