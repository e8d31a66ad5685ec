use Rattle.p8_page.proofs.Escapes.{all_inert}
use Rattle.p8_page.proofs.laws.blocks_are_inert.Goals as goal

pub returns : goal.returns
returns c = all_inert
