use Rattle.std.proofs.Common.{◌∙◌}
use Rattle.p8_desk.proofs.Placing.{taken-cog}
use Rattle.p8_desk.proofs.passes.Passes.take.Goals as goal

pub returns-clause-cog : goal.returns-clause-cog
returns-clause-cog c = taken-cog c.self.inside.places.items c.args.cog c.index_mut.result.now c.take.result c.self.invariant c.requires (c.take.ensures.value ∙ c.index_mut.ensures.value)
