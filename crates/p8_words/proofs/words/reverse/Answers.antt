use Rattle.std.proofs.Common.{arith}
use Rattle.p8_words.proofs.Bits.{reversed-onto}
use Rattle.p8_words.proofs.words.reverse.Goals as goal

pub returns : goal.returns
returns c = omega (arith, c.reverse_bits.ensures, reversed-onto 32 c.args.a 0)
