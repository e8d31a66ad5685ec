use Rattle.std.proofs.Common.{◌≡◌, ◌∙◌, ap, sym, subst, length}
use Rattle.p8_tree.specs.Views.{form_of}
use Rattle.p8_tree.specs.Bridges.{built_is}
use Rattle.p8_kinds.specs.Environments.{environment_of}
use Rattle.p8_kinds.specs.Misuses.{own_misuse, misuse_of_arguments}
use Rattle.p8_kinds.proofs.Rows.{count_is}
use Rattle.p8_kinds.proofs.single.own_misuse.Goals as goal

pub returns-in-Built : goal.returns-in-Built
returns-in-Built c =
    let p = c.args.expr.now.place in
    subst (λ f. c.misuse_of_arguments.result ≡ own_misuse (environment_of c.args.scope.now) p f) (sym (ap form_of c.in-Built.is ∙ built_is c.in-Built.code c.in-Built.arguments))
    (c.misuse_of_arguments.ensures ∙ ap (λ n. misuse_of_arguments c.in-Built.code n p) (ap length c.deref.ensures.value ∙ sym (count_is c.in-Built.arguments.items)))
