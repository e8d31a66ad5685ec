use Rattle.p8_blocks.proofs.OneRefusal.{none_refused}
use Rattle.p8_blocks.proofs.laws.files_are_not_refused.Goals as goal

pub returns : goal.returns
returns c = λ ts s n p f. none_refused f
