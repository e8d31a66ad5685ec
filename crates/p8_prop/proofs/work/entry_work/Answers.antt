use Rattle.std.proofs.Common.{[]}
use Rattle.p8_prop.proofs.work.entry_work.Goals as goal

pub returns : goal.returns
returns c files = (([], tt, c.in_ok-text.ensures), tt)
