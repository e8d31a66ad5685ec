use Rattle.std.proofs.Common.{◌≡◌, ◌++◌, drop}
use Rattle.std.specs.List.{flat_map}
use Rattle.p8_map.specs.Map.{label_line}
use Rattle.p8_map.proofs.objects.push_labels.Given as goal

abbrev pub invariant-loop-label : goal.invariant-loop-label
invariant-loop-label l = l.out.items ++ flat_map (label_line l.base) (drop l.label-index l.labels) ≡ l.initial.out.items ++ flat_map (label_line l.base) l.labels
