use Rattle.p8_prop.proofs.Saving.{saved-good, check-good}
use Rattle.p8_prop.proofs.saved_laws.saved_histories_are_good.Goals as goal

pub returns-clause-given : goal.returns-clause-given
returns-clause-given c = saved-good c.good_files.ensures

pub returns-clause-answered : goal.returns-clause-answered
returns-clause-answered c = check-good c.good_files.ensures
