use Rattle.std.proofs.Common.{◌≡◌, length}
use Rattle.p8_legend.specs.ProjectLegends.{with_methods}
use Rattle.p8_legend.proofs.objects.push_methods.Given as goal

abbrev pub invariant-loop-methods : goal.invariant-loop-methods
invariant-loop-methods l = with_methods (l.names.ranges, l.names.texts) l.prefix l.place l.methods l.parts ≡ with_methods (l.initial.names.ranges, l.initial.names.texts) l.prefix l.initial.place l.initial.methods l.initial.parts

abbrev pub decreases-loop-methods : goal.decreases-loop-methods
decreases-loop-methods l = length l.methods
