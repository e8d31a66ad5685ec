use Rattle.p8_cog.specs.declared.progress.Had.TheVariants.{Nothing}
use Rattle.p8_cog.specs.Keeping.{unloaded-stands}
use Rattle.p8_cog.proofs.pasm.Cog.start.Goals as goal

pub returns-clause-stands : goal.returns-clause-stands
returns-clause-stands c = unloaded-stands c.args.cog c.args.code c.args.par c.args.load (record { begun = c.in_ok-unloaded.field-0; had = Nothing }) c.in_ok-unloaded.ensures.par c.in_ok-unloaded.ensures.at c.in_ok-unloaded.ensures.clock
