use Rattle.std.proofs.Common.{arith}
use Rattle.p8_columns.proofs.Frames.{opener_is, opener_past}
use Rattle.p8_columns.proofs.stack.Stack.opener_at.Goals as goal

pub returns-then-index-len : goal.returns-then-index-len
returns-then-index-len c = opener_is c.args.self.now c.args.index c.at.result.now (omega arith) c.at.ensures

pub returns-else-index-len : goal.returns-else-index-len
returns-else-index-len c = opener_past c.args.self.now c.args.index (omega arith)
