use Rattle.std.proofs.Common.{◌≡◌, ◌++◌, length, map}
use Rattle.p8_build.specs.declared.accepting.AcceptedFile.{AcceptedFile}
use Rattle.p8_legend.specs.Rows.{rows_from}
use Rattle.p8_legend.proofs.rows.rows_of.Given as goal

abbrev pub invariant-loop-objects : goal.invariant-loop-objects
invariant-loop-objects l =
    l.rows ++ rows_from l.file l.base l.objects (map (λ (f : AcceptedFile). f.codes) l.accepted) ≡ rows_from 0 16 l.initial.objects (map (λ (f : AcceptedFile). f.codes) l.initial.accepted)

abbrev pub decreases-loop-objects : goal.decreases-loop-objects
decreases-loop-objects l = length l.objects
