use Rattle.p8_columns.proofs.Meaning.{fit_together}
use Rattle.p8_columns.proofs.laws.fit_together.Goals as goal

pub returns : goal.returns
returns c = fit_together
