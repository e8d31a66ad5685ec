use Rattle.std.proofs.Common.{◌≡◌, length}
use Rattle.p8_legend.specs.ProjectLegends.{with_sized}
use Rattle.p8_legend.proofs.variables.push_sized.Given as goal

abbrev pub invariant-loop-texts : goal.invariant-loop-texts
invariant-loop-texts l =
    with_sized (l.names.ranges, l.names.texts) l.size l.place l.prefix l.texts l.variables
    ≡ with_sized (l.initial.names.ranges, l.initial.names.texts) l.size l.initial.place l.prefix l.initial.texts l.initial.variables

abbrev pub decreases-loop-texts : goal.decreases-loop-texts
decreases-loop-texts l = length l.texts
