use Rattle.std.proofs.Common.{OnOk, sym, ap, ◌∙◌, subst, rules}
use Rattle.p8_tree.specs.Expressions.{node}
use Rattle.p8_tree.specs.Views.{form_of}
use Rattle.p8_tree.specs.declared.expressions.Call.{out-Call}
use Rattle.p8_fold.proofs.ValueRows.{call_form}
use Rattle.p8_gen.proofs.Rows.{counts}
use Rattle.p8_gen.specs.Expressions.{starts}
use Rattle.p8_gen.specs.Scopes.{names_of}
use Rattle.p8_gen.specs.Writing.{Stands}
use Rattle.p8_gen.proofs.coder.Coder.starts.Goals as goal

pub returns-in-Call : goal.returns-in-Call
returns-in-Call c = λ w stands.
    subst (λ f. OnOk c.start_of_method.result (Stands c.start_of_method.new.self (starts (names_of c.args.self.now) (node c.args.begun.now.place f) w))) (sym (ap form_of c.in-Call.is ∙ call_form c.in-Call.call))
    (rw (counts (out-Call c.in-Call.call).args.items) (search rules))
