use Rattle.std.proofs.Common.{ap, ◌∙◌}
use Rattle.p8_tree.specs.Expressions.{◌▷◌}
use Rattle.p8_tree.specs.Views.{tree_of, trees_of}
use Rattle.p8_tree.specs.Bridges.{trees_of-push}
use Rattle.p8_expr.proofs.closing.listed.Goals as goal

pub returns : goal.returns
returns c = ap trees_of c.in_ok-push.ensures.items ∙ trees_of-push c.args.items.items c.into_inner.result ∙ ap (λ x. trees_of c.args.items.items ▷ tree_of x) c.into_inner.ensures
