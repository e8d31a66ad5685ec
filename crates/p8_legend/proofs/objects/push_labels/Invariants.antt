use Rattle.std.proofs.Common.{◌≡◌, length}
use Rattle.p8_legend.specs.ProjectLegends.{with_labels}
use Rattle.p8_legend.proofs.objects.push_labels.Given as goal

abbrev pub invariant-loop-labels : goal.invariant-loop-labels
invariant-loop-labels l = with_labels (l.names.ranges, l.names.texts) l.prefix l.base l.codes l.labels ≡ with_labels (l.initial.names.ranges, l.initial.names.texts) l.prefix l.base l.codes l.initial.labels

abbrev pub decreases-loop-labels : goal.decreases-loop-labels
decreases-loop-labels l = length l.labels
