use Rattle.p8_blocks.proofs.Answering.{one_answer}
use Rattle.p8_blocks.proofs.laws.one_answer.Goals as goal

pub returns : goal.returns
returns c = one_answer
