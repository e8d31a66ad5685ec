use Rattle.std.proofs.Common.{length}
use Rattle.std.proofs.lemmas.Grind.{common_steps}
use Rattle.std.proofs.Common.{arith}
use Rattle.p8_image.proofs.Words.{zeros}
use Rattle.p8_image.proofs.bytes.push_padded.Goals as goal

pub returns : goal.returns
returns c = let h = zeros (length c.args.bytes.now) in grind (arith, common_steps, h)
