use Rattle.std.proofs.Common.{◌∙◌}
use Rattle.p8_alu.proofs.Places.{rotate_right-is}
use Rattle.p8_alu.proofs.operations.rotated_right.Goals as goal

pub returns : goal.returns
returns c = c.rotate_right.ensures ∙ rotate_right-is c.args.a c.args.n c.ranges.a.fits c.requires
