use Rattle.p8_blocks.proofs.Reaching.{starts}
use Rattle.p8_blocks.proofs.first.First.at.Goals as goal

pub returns : goal.returns
returns c = starts c.args.here.now c.args.begun _ c.requires c.word.ensures c.place-place.ensures c.unwrap_or.ensures c.is_begun.ensures
