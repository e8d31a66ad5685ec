use Rattle.std.proofs.Common.{◌∙◌, ap, ◌++◌, ◌∷◌, []}
use Rattle.p8_columns.proofs.Built.{statements_pushed}
use Rattle.p8_columns.proofs.statements.with_last.Goals as goal

pub returns : goal.returns
returns c = statements_pushed c.args.statements.items c.push.new.self.items c.args.last (c.in_ok-push.ensures.items ∙ ap (λ l. l ++ c.args.last ∷ []) c.in_ok-make_room.ensures)
