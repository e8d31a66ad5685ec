use Rattle.p8_wave.proofs.Fitting.{clocks-spaced, times-spaced}
use Rattle.p8_wave.proofs.plot_laws.texts_apart.Goals as goal

pub returns-clause-clocks : goal.returns-clause-clocks
returns-clause-clocks c = clocks-spaced

pub returns-clause-times : goal.returns-clause-times
returns-clause-times c = times-spaced
