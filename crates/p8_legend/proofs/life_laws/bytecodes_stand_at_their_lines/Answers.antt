use Rattle.p8_legend.proofs.Asked.{line-fetched}
use Rattle.p8_legend.proofs.life_laws.bytecodes_stand_at_their_lines.Goals as goal

pub returns : goal.returns
returns c = λ n ss memory base has are op line there. line-fetched n ss memory base has are op line there
