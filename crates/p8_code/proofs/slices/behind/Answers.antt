use Rattle.std.proofs.Common.{sym, arith, drop_of_length-le}
use Rattle.p8_code.proofs.slices.behind.Goals as goal

pub returns-else-count-items : goal.returns-else-count-items
returns-else-count-items g c = sym (drop_of_length-le c.args.items.now {i = c.args.count} (omega arith))
