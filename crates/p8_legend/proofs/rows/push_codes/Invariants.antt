use Rattle.std.proofs.Common.{◌≡◌, ◌++◌, length}
use Rattle.p8_legend.specs.Rows.{code_rows}
use Rattle.p8_legend.proofs.rows.push_codes.Given as goal

abbrev pub invariant-loop-codes : goal.invariant-loop-codes
invariant-loop-codes l = l.rows ++ code_rows l.file l.method l.at l.codes ≡ l.initial.rows ++ code_rows l.file 1 l.initial.at l.initial.codes

abbrev pub decreases-loop-codes : goal.decreases-loop-codes
decreases-loop-codes l = length l.codes
