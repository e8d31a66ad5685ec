use Rattle.p8_alu.proofs.Places.{right_filled}
use Rattle.p8_alu.proofs.operations.shifted_right_filling.Goals as goal

pub returns-then-flag : goal.returns-then-flag
returns-then-flag c = rw c.if-flag.true (right_filled c.args.a c.args.n c.ranges.a.fits c.requires)
