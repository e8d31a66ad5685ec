use Rattle.p8_objects.proofs.Growing.{project-grows, project-gathers}
use Rattle.p8_objects.proofs.laws.projects_are_gathered.Goals as goal

pub returns : goal.returns
returns c = λ shelf top files. (project-grows shelf top files, project-gathers shelf top files)
