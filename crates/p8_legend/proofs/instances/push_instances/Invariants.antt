use Rattle.std.proofs.Common.{◌≡◌, length}
use Rattle.p8_legend.specs.ProjectLegends.{with_instances}
use Rattle.p8_legend.proofs.instances.push_instances.Given as goal

abbrev pub invariant-loop-instances : goal.invariant-loop-instances
invariant-loop-instances l =
    with_instances (l.names.ranges, l.names.texts) l.files l.objects l.instances ≡ with_instances (l.initial.names.ranges, l.initial.names.texts) l.files l.objects l.initial.instances

abbrev pub decreases-loop-instances : goal.decreases-loop-instances
decreases-loop-instances l = length l.instances
