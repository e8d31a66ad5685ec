use Rattle.p8_alu.proofs.Places.{left_filled}
use Rattle.p8_alu.proofs.operations.shifted_left_filling.Goals as goal

pub returns-then-flag : goal.returns-then-flag
returns-then-flag c = rw c.if-flag.true (left_filled c.args.a c.args.n c.requires)
