use Rattle.p8_alu.proofs.Places.{destination_replaced}
use Rattle.p8_alu.proofs.operations.with_destination.Goals as goal

pub returns : goal.returns
returns c = destination_replaced c.args.a c.args.b c.ranges.a.fits
