use Rattle.std.proofs.Common.{◌≡◌, ◌++◌, drop}
use Rattle.p8_map.specs.Map.{objects_lines}
use Rattle.p8_map.proofs.objects.push_objects.Given as goal

abbrev pub invariant-loop-object : goal.invariant-loop-object
invariant-loop-object l =
    l.out.items ++ objects_lines l.files l.base l.rest (drop l.object-index l.objects) ≡ l.initial.out.items ++ objects_lines l.files 16 l.files l.objects
