use Rattle.std.proofs.Common.{◌≡◌, ◌++◌, drop}
use Rattle.std.specs.List.{flat_map}
use Rattle.p8_map.specs.Map.{instance_lines}
use Rattle.p8_map.proofs.owners.push_owners.Given as goal

abbrev pub invariant-loop-instance : goal.invariant-loop-instance
invariant-loop-instance l =
    l.out.items ++ flat_map (instance_lines l.files l.objects l.bases) (drop l.instance-index l.instances)
    ≡ l.initial.out.items ++ flat_map (instance_lines l.files l.objects l.bases) l.instances
