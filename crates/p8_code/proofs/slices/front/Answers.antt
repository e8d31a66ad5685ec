use Rattle.std.proofs.Common.{sym, arith}
use Rattle.std.proofs.lemmas.List.{take_all}
use Rattle.p8_code.proofs.slices.front.Goals as goal

pub returns-then-items-count : goal.returns-then-items-count
returns-then-items-count g c = sym (take_all c.args.count c.args.items.now (omega arith))
