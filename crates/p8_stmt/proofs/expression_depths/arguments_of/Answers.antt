use Rattle.std.proofs.Common.{◌≡◌, sym, ap, ◌∙◌, subst, rules}
use Rattle.p8_tree.specs.Expressions.{node}
use Rattle.p8_tree.specs.Views.{form_of}
use Rattle.p8_tree.specs.declared.expressions.Call.{out-Call}
use Rattle.p8_fold.proofs.ValueRows.{call_form}
use Rattle.p8_gen.proofs.Rows.{counts}
use Rattle.p8_gen.specs.Depths.{arguments_of}
use Rattle.p8_stmt.specs.Cutting.{cut}
use Rattle.p8_stmt.proofs.expression_depths.arguments_of.Goals as goal

pub returns-in-Call : goal.returns-in-Call
returns-in-Call c =
    subst (λ f. c.short.result ≡ cut (arguments_of (node c.args.begun.now.place f))) (sym (ap form_of c.in-Call.is ∙ call_form c.in-Call.call))
    (rw (counts (out-Call c.in-Call.call).args.items) (search rules))
