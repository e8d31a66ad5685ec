use Rattle.std.proofs.Common.{ap, sym, ◌∙◌}
use Rattle.p8_tree.specs.Expressions.{node}
use Rattle.p8_tree.specs.Views.{form_of, trees_of}
use Rattle.p8_gen.specs.Depths.{held_alone, held_by_built}
use Rattle.p8_gen.specs.Scopes.{names_of}
use Rattle.p8_stmt.specs.Cutting.{cut}
use Rattle.p8_stmt.proofs.Depths.{alone_of_call, alone_of_built}
use Rattle.p8_stmt.proofs.expression_depths.held_alone.Goals as goal

pub returns-in-Call : goal.returns-in-Call
returns-in-Call c =
    let n = names_of c.args.coder.now in
    let place = c.args.expr.now.place in
    c.held_by_call.ensures ∙ ap cut (alone_of_call n place c.in-Call.call ∙ sym (ap (λ k. held_alone n (node place (form_of k))) c.in-Call.is))

pub returns-in-Built : goal.returns-in-Built
returns-in-Built c =
    let n = names_of c.args.coder.now in
    let place = c.args.expr.now.place in
    c.held_by_built.ensures
    ∙ ap cut (ap (λ es. held_by_built n c.in-Built.code (trees_of es)) c.deref-in-Built.ensures.value ∙ alone_of_built n place c.in-Built.code c.in-Built.arguments
    ∙ sym (ap (λ k. held_alone n (node place (form_of k))) c.in-Built.is))
