use Rattle.std.proofs.Common.{◌≡◌, sym, ap, ◌∙◌, subst, rules}
use Rattle.p8_tree.specs.Expressions.{node}
use Rattle.p8_tree.specs.Views.{form_of}
use Rattle.p8_fold.proofs.ValueRows.{call_form}
use Rattle.p8_gen.specs.Expressions.{starts_method}
use Rattle.p8_gen.specs.Scopes.{names_of}
use Rattle.p8_gen.proofs.coder.Coder.starts_method.Goals as goal

pub returns-in-Call : goal.returns-in-Call
returns-in-Call c =
    subst (λ f. c.calls_own.result ≡ starts_method (names_of c.args.self.now) (node c.args.started.now.place f)) (sym (ap form_of c.in-Call.is ∙ call_form c.in-Call.call)) (search rules)
