use Rattle.std.proofs.Common.{◌-◌, length}
use Rattle.p8_grammar.specs.Views.{setting_of}
use Rattle.p8_expr.proofs.Answered.{IsReading}
use Rattle.p8_expr.proofs.reading.read.Given as goal

abbrev pub invariant-turns : goal.invariant-turns
invariant-turns l = IsReading (setting_of l.fn.setting) l.fn.here.bytes l.fn.here.tokens l.fn.here.at l.reader

abbrev pub decreases-turns : goal.decreases-turns
decreases-turns l = length l.fn.here.tokens - l.reader.ahead.here.at
