use Rattle.std.proofs.Common.{◌≡◌, ◌++◌, length}
use Rattle.p8_legend.specs.Rows.{line_rows}
use Rattle.p8_legend.proofs.rows.push_lines.Given as goal

abbrev pub invariant-loop-lines : goal.invariant-loop-lines
invariant-loop-lines l = l.rows ++ line_rows l.file l.method l.at l.size l.lines ≡ l.initial.rows ++ line_rows l.file l.method l.at l.size l.initial.lines

abbrev pub decreases-loop-lines : goal.decreases-loop-lines
decreases-loop-lines l = length l.lines
