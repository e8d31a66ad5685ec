use Rattle.std.proofs.Common.{sym, ap, ◌∙◌}
use Rattle.std.specs.Prelude.{option_copied}
use Rattle.p8_expr.specs.Views.{frames_in, takes_text}
use Rattle.p8_expr.proofs.Measures.{first_is, none_is}
use Rattle.p8_expr.proofs.stack.Stack.takes_text.Goals as goal

pub returns-in-Some : goal.returns-in-Some
returns-in-Some c =
    let xs = c.args.self.now in
    let f = first_is c.in-Some.level.now xs (sym c.last.ensures.first ∙ ap option_copied c.in-Some.is) c.last.ensures.measured in
    c.takes_text.ensures (frames_in f.rest) ∙ ap (λ xs. takes_text (frames_in xs)) (sym f.is)

pub returns-in-None : goal.returns-in-None
returns-in-None c = ap (λ xs. takes_text (frames_in xs)) (sym (none_is c.args.self.now (sym c.last.ensures.first ∙ ap option_copied c.in-None.is)))
