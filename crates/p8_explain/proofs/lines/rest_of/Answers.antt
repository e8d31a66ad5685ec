use Rattle.std.proofs.Common.{sym, arith}
use Rattle.std.proofs.Math.ListN.{drop_of_length-le}
use Rattle.p8_explain.proofs.lines.rest_of.Goals as goal

pub returns-else-left-line : goal.returns-else-left-line
returns-else-left-line c = sym (drop_of_length-le c.args.line.now (omega arith))
