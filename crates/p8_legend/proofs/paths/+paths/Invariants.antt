use Rattle.std.proofs.Common.{◌≡◌, ◌+◌, ◌*◌, length}
use Rattle.p8_legend.specs.ProjectLegends.{first_inside}
use Rattle.p8_legend.proofs.paths.+paths.Given as goal

abbrev pub decreases-push_path : goal.decreases-push_path
decreases-push_path l = 2 * l.depth

abbrev pub decreases-push_behind : goal.decreases-push_behind
decreases-push_behind l = 2 * l.depth + 1

abbrev pub invariant-push_behind-loop-others : goal.invariant-push_behind-loop-others
invariant-push_behind-loop-others l =
    (l.out.items ≡ l.initial.out.items) × (first_inside l.number l.file l.others l.rest ≡ first_inside l.number 0 l.files l.objects)

abbrev pub decreases-push_behind-loop-others : goal.decreases-push_behind-loop-others
decreases-push_behind-loop-others l = length l.others
