use Rattle.p8_meaning.proofs.Meanings.{program-folded}
use Rattle.p8_meaning.proofs.folding_laws.folded_sources_have_folded_methods.Goals as goal

pub returns : goal.returns
returns c = program-folded
