use Rattle.std.proofs.Common.{◌≡◌, ◌++◌, ◌+◌, ◌*◌, drop}
use Rattle.p8_map.specs.Map.{all_inside, instances_within}
use Rattle.p8_map.proofs.instances.+instances.Given as goal

abbrev pub decreases-push_instance : goal.decreases-push_instance
decreases-push_instance l = 3 * l.depth

abbrev pub decreases-push_inner : goal.decreases-push_inner
decreases-push_inner l = 3 * l.depth + 2

abbrev pub decreases-push_one : goal.decreases-push_one
decreases-push_one l = 3 * l.depth + 1

abbrev pub invariant-push_inner-loop-file : goal.invariant-push_inner-loop-file
invariant-push_inner-loop-file l =
    l.all ++ all_inside (instances_within l.plan.files.now l.plan.objects.now l.plan.sizes.now l.depth) l.plan.sizes.now l.place l.prefix l.rest (drop l.file-index l.instances)
    ≡ l.initial.all ++ all_inside (instances_within l.plan.files.now l.plan.objects.now l.plan.sizes.now l.depth) l.plan.sizes.now l.initial.place l.prefix l.initial.rest l.instances
