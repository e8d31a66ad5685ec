use Rattle.std.proofs.Common.{◌∙◌, sym}
use Rattle.p8_view.proofs.Unchanged.{nothing_more}
use Rattle.p8_view.proofs.drives.push_pins.Goals as goal

pub returns-then-are_same : goal.returns-then-are_same
returns-then-are_same c = nothing_more c.args.before.now c.args.after.now c.args.out.now.items (sym c.are_same.ensures ∙ c.if-are_same.true)
