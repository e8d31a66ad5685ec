use Rattle.std.proofs.Common.{◌≡◌, [], length}
use Rattle.p8_legend.specs.ProjectLegends.{with_objects}
use Rattle.p8_legend.proofs.objects.names_of.Given as goal

abbrev pub invariant-loop-files : goal.invariant-loop-files
invariant-loop-files l = with_objects (l.names.ranges, l.names.texts) l.all l.parts l.number l.base l.files l.objects ≡ with_objects ([], []) l.all l.parts 0 16 l.all l.parts

abbrev pub decreases-loop-files : goal.decreases-loop-files
decreases-loop-files l = length l.files
