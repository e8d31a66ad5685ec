use Rattle.std.proofs.Common.{◌==◌, ◌%◌, sym, ap}
use Rattle.p8_words.proofs.Bits.{sum-bits_of}
use Rattle.p8_words.proofs.words.parity.Goals as goal

pub returns : goal.returns
returns c = ap (λ n. n % 2 == 1) (sym (sum-bits_of 32 c.args.a c.ranges.a.fits))
