use Rattle.p8_wave.proofs.Covering.{columns-covered, columns-fit, width-least}
use Rattle.p8_wave.proofs.plot_laws.columns_cover.Goals as goal

pub returns-clause-covered : goal.returns-clause-covered
returns-clause-covered c = columns-covered

pub returns-clause-fit : goal.returns-clause-fit
returns-clause-fit c = columns-fit

pub returns-clause-least : goal.returns-clause-least
returns-clause-least c = width-least
