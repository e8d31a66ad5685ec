use Rattle.p8_access.specs.Agreeing.{readings-agree}
use Rattle.p8_access.proofs.course_laws.readings_agree.Goals as goal

pub returns : goal.returns
returns g c = λ e start count first turns. readings-agree e start count first turns
