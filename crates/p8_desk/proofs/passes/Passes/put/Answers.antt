use Rattle.std.proofs.Common.{sym}
use Rattle.p8_desk.proofs.Placing.{in-place-set}
use Rattle.p8_desk.proofs.passes.Passes.put.Goals as goal

pub invariant_of-self : goal.invariant_of-self
invariant_of-self c = in-place-set c.self.inside.places.items c.cog-place.result c.args.pass c.self.invariant (sym c.cog-place.ensures)
