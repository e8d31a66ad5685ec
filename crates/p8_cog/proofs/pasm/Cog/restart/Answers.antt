use Rattle.p8_cog.specs.declared.progress.Had.TheVariants.{Nothing}
use Rattle.p8_cog.specs.Keeping.{unloaded-stands}
use Rattle.p8_cog.proofs.pasm.Cog.restart.Goals as goal

pub returns-clause-stands : goal.returns-clause-stands
returns-clause-stands c = unloaded-stands c.args.cog c.args.code c.args.par c.args.load (record { begun = c.unload.new.self; had = Nothing }) c.unload.ensures.par c.unload.ensures.at c.unload.ensures.clock
