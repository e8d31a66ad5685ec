use Rattle.std.proofs.Common.{◌∙◌}
use Rattle.p8_alu.proofs.Places.{rotate_left-is}
use Rattle.p8_alu.proofs.operations.rotated_left.Goals as goal

pub returns : goal.returns
returns c = c.rotate_left.ensures ∙ rotate_left-is c.args.a c.args.n c.ranges.a.fits c.requires
