use Rattle.p8_access.proofs.Agreeing.{ends}
use Rattle.p8_access.proofs.fitting_laws.a_course_ends_its_list.Goals as goal

pub returns : goal.returns
returns g c = λ cog made course answers t is. ends cog made course answers t is
