use Rattle.std.proofs.Common.{◌≡◌, length}
use Rattle.p8_legend.specs.ProjectLegends.{name_inside}
use Rattle.p8_legend.proofs.paths.name_inside.Given as goal

abbrev pub invariant-loop-names : goal.invariant-loop-names
invariant-loop-names l = name_inside l.number l.names l.instances ≡ name_inside l.number l.initial.names l.initial.instances

abbrev pub decreases-loop-names : goal.decreases-loop-names
decreases-loop-names l = length l.names
