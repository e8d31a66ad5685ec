use Rattle.p8_opt.proofs.Misuse.{body-misused}
use Rattle.p8_opt.proofs.folded_laws.folded_bodies_misuse_nothing.Goals as goal

pub returns : goal.returns
returns c = λ env constants ss proper clean f misused. clean f (body-misused env f constants ss proper misused)
