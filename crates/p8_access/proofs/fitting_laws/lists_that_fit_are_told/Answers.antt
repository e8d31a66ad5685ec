use Rattle.p8_access.proofs.Agreeing.{is-told, only-told}
use Rattle.p8_access.proofs.fitting_laws.lists_that_fit_are_told.Goals as goal

pub returns-clause-told : goal.returns-clause-told
returns-clause-told g c = λ cog made course answers fit. is-told cog made course answers fit

pub returns-clause-only : goal.returns-clause-only
returns-clause-only g c = λ cog made course answers t fit is. only-told cog made course answers t fit is
