use Rattle.p8_opt.proofs.Proper.{body-proper}
use Rattle.p8_opt.proofs.Nesting.{body-leaves, body-shallow}
use Rattle.p8_opt.proofs.folded_laws.folded_bodies_are_proper.Goals as goal

pub returns : goal.returns
returns c = record { proper = body-proper; loops = body-leaves; shallow = body-shallow }
