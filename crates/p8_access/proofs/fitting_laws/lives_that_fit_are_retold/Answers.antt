use Rattle.p8_access.proofs.Agreeing.{is-retold, only-retold}
use Rattle.p8_access.proofs.fitting_laws.lives_that_fit_are_retold.Goals as goal

pub returns-clause-told : goal.returns-clause-told
returns-clause-told g c = λ e first count answers fit. is-retold e first count answers fit

pub returns-clause-only : goal.returns-clause-only
returns-clause-only g c = λ e first count answers t fit is. only-retold e first count answers t fit is
