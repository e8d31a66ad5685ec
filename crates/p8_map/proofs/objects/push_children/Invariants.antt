use Rattle.std.proofs.Common.{◌≡◌, ◌++◌, drop}
use Rattle.p8_map.specs.Map.{child_lines}
use Rattle.p8_map.proofs.objects.push_children.Given as goal

abbrev pub invariant-loop-file : goal.invariant-loop-file
invariant-loop-file l =
    l.out.items ++ child_lines l.files l.place l.rest (drop l.file-index l.instances) ≡ l.initial.out.items ++ child_lines l.files l.initial.place l.initial.rest l.instances
