use Rattle.std.proofs.Common.{◌≡◌, ◌∙◌, Some, ap, sym, subst, length}
use Rattle.p8_tree.specs.Views.{form_of}
use Rattle.p8_tree.specs.Bridges.{built_is}
use Rattle.p8_kinds.specs.Uses.{argument_count}
use Rattle.p8_kinds.proofs.Rows.{count_is}
use Rattle.p8_build.specs.Arguments.{differing, own_told, told_at}
use Rattle.p8_build.specs.Searching.{search_of}
use Rattle.p8_build.proofs.arguments.own_told.Goals as goal

pub returns-in-Built : goal.returns-in-Built
returns-in-Built c =
    let s = search_of c.args.sought.now in
    let p = c.args.expr.now.place in
    subst (λ f. c.of_built.result ≡ own_told s p f) (sym (ap form_of c.in-Built.is ∙ built_is c.in-Built.code c.in-Built.arguments))
    (c.of_built.ensures ∙ ap (λ n. told_at s p (differing (Some (argument_count c.in-Built.code)) n)) (ap length c.deref.ensures.value ∙ sym (count_is c.in-Built.arguments.items)))
