use Rattle.std.proofs.Common.{refl}
use Rattle.p8_blocks.proofs.growing.Growing.extend.Goals as goal

pub returns : goal.returns
returns c = λ p ps i b. record { parts = (i, b); begun = refl }
