use Rattle.p8_wave.proofs.Ended.{end-fits}
use Rattle.p8_wave.proofs.Fitting.{pins-fit, ticks-fit, clocks-fit, times-fit}
use Rattle.p8_wave.proofs.plot_laws.lines_fit.Goals as goal

pub returns-clause-pins : goal.returns-clause-pins
returns-clause-pins c = pins-fit

pub returns-clause-ticks : goal.returns-clause-ticks
returns-clause-ticks c = ticks-fit

pub returns-clause-clocks : goal.returns-clause-clocks
returns-clause-clocks c = clocks-fit

pub returns-clause-times : goal.returns-clause-times
returns-clause-times c = times-fit

pub returns-clause-ended : goal.returns-clause-ended
returns-clause-ended c = end-fits
