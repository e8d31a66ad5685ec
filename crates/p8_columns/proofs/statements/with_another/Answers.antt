use Rattle.std.proofs.Common.{◌∙◌, ap, ◌++◌, ◌∷◌, []}
use Rattle.p8_columns.proofs.Built.{arms_pushed}
use Rattle.p8_columns.proofs.statements.with_another.Goals as goal

pub returns : goal.returns
returns c = arms_pushed c.args.arms.items c.push.new.self.items c.args.arm (c.in_ok-push.ensures.items ∙ ap (λ l. l ++ c.args.arm ∷ []) c.in_ok-make_room.ensures)
