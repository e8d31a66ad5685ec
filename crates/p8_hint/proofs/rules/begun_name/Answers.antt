use Rattle.std.proofs.Common.{◌∙◌, ap, sym}
use Rattle.p8_tree.specs.Expressions.{node}
use Rattle.p8_tree.specs.Views.{form_of}
use Rattle.p8_fold.proofs.ValueRows.{call_form}
use Rattle.p8_hint.specs.Rules.{begun_name}
use Rattle.p8_hint.proofs.rules.begun_name.Goals as goal

pub returns-in-Call : goal.returns-in-Call
returns-in-Call c =
    let place = c.args.begun.now.place in
    c.own_method.ensures ∙ sym (ap (λ k. begun_name (node place (form_of k))) c.in-Call.is ∙ ap (λ f. begun_name (node place f)) (call_form c.in-Call.call))
