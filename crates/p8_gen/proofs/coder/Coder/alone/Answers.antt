use Rattle.std.proofs.Common.{false, sym, ap, ◌∙◌, subst}
use Rattle.p8_tree.specs.Expressions.{node}
use Rattle.p8_tree.specs.Views.{form_of, trees_of}
use Rattle.p8_gen.specs.Expressions.{alone, call_of_built}
use Rattle.p8_gen.specs.Scopes.{names_of}
use Rattle.p8_gen.proofs.Walks.{Runs, alone_of_call, alone_of_built}
use Rattle.p8_gen.proofs.coder.Coder.alone.Goals as goal

pub returns-in-Call : goal.returns-in-Call
returns-in-Call c =
    let n = names_of c.args.self.now in
    let place = c.args.expr.now.place in
    subst (Runs c.args.out.now c.call.result c.call.new.out) (alone_of_call n place c.in-Call.call ∙ sym (ap (λ k. alone n (node place (form_of k))) c.in-Call.is)) c.call.ensures

pub returns-in-Built : goal.returns-in-Built
returns-in-Built c =
    let n = names_of c.args.self.now in
    let place = c.args.expr.now.place in
    subst (Runs c.args.out.now c.call_of_built.result c.call_of_built.new.out)
    (ap (λ es. call_of_built n false c.in-Built.code (trees_of es)) c.deref-in-Built.ensures.value ∙ alone_of_built n place c.in-Built.code c.in-Built.arguments ∙ sym (ap (λ k. alone n (node place (form_of k))) c.in-Built.is))
    c.call_of_built.ensures
