use Rattle.std.proofs.Common.{◌≡◌, length}
use Rattle.p8_legend.specs.DatLines.{with_dat}
use Rattle.p8_legend.proofs.dat_lines.push_dat.Given as goal

abbrev pub invariant-loop-begins : goal.invariant-loop-begins
invariant-loop-begins l = with_dat (l.lines.ranges, l.lines.texts) l.file l.base l.codes l.begins ≡ with_dat (l.initial.lines.ranges, l.initial.lines.texts) l.file l.base l.codes l.initial.begins

abbrev pub decreases-loop-begins : goal.decreases-loop-begins
decreases-loop-begins l = length l.begins
