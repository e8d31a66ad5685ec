use Rattle.p8_page.proofs.Escapes.{all_back}
use Rattle.p8_page.proofs.laws.blocks_are_read_back.Goals as goal

pub returns : goal.returns
returns c = all_back
