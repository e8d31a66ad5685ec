use Rattle.std.proofs.Common.{◌∙◌, ap, ◌++◌, ◌∷◌, [], None}
use Rattle.p8_tree.specs.declared.expressions.Item.{roll-Item}
use Rattle.p8_columns.proofs.Built.{condition_is}
use Rattle.p8_columns.proofs.statements.condition.Goals as goal

pub returns : goal.returns
returns c =
    condition_is c.from_vec.result c.args.negated c.args.test c.args.body
    (c.from_vec.ensures ∙ (c.in_ok-push.ensures.items ∙ ap (λ l. l ++ roll-Item (record { low = c.args.test; high = None }) ∷ []) (c.in_ok-make_room.ensures ∙ c.new-tests.ensures.items)))
