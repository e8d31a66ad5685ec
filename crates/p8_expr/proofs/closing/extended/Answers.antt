use Rattle.std.proofs.Common.{ap, ◌∙◌}
use Rattle.p8_tree.specs.Views.{items_of}
use Rattle.p8_tree.specs.Bridges.{items_of-push}
use Rattle.p8_expr.proofs.closing.extended.Goals as goal

pub returns : goal.returns
returns c = ap items_of c.in_ok-push.ensures.items ∙ items_of-push c.args.items.items c.args.more
