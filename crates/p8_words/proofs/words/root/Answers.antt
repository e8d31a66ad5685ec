use Rattle.p8_words.proofs.Greatest.{square_root-is}
use Rattle.std.proofs.Common.{sym}
use Rattle.p8_words.proofs.words.root.Goals as goal

pub returns-clause-value : goal.returns-clause-value
returns-clause-value c =
    sym (square_root-is c.args.a c.isqrt.result c.isqrt.ensures.square_le c.isqrt.ensures.next_square_gt)
