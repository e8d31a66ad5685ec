use Rattle.std.proofs.Common.{◌≡◌, [], length, map}
use Rattle.p8_build.specs.declared.accepting.AcceptedFile.{AcceptedFile}
use Rattle.p8_legend.specs.DatLines.{with_dats}
use Rattle.p8_legend.proofs.dat_lines.dat_lines_of.Given as goal

abbrev pub invariant-loop-files : goal.invariant-loop-files
invariant-loop-files l =
    with_dats (l.lines.ranges, l.lines.texts) l.base l.files l.objects (map (λ (f : AcceptedFile). f.dat.lines) l.accepted)
    ≡ with_dats ([], []) 16 l.initial.files l.initial.objects (map (λ (f : AcceptedFile). f.dat.lines) l.initial.accepted)

abbrev pub decreases-loop-files : goal.decreases-loop-files
decreases-loop-files l = length l.files
