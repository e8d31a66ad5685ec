use Rattle.std.proofs.Common.{sym, arith}
use Rattle.std.proofs.lemmas.List.{take_all}
use Rattle.p8_explain.proofs.lines.first_of.Goals as goal

pub returns-then-line-count : goal.returns-then-line-count
returns-then-line-count c = sym (take_all c.args.count c.args.line.now (omega arith))
