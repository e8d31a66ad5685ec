use Rattle.std.proofs.Common.{◌≡◌, ◌++◌, drop}
use Rattle.p8_image.specs.Layout.{objects_bytes}
use Rattle.p8_image.proofs.bytes.push_objects.Given as goal

abbrev pub invariant-loop-object : goal.invariant-loop-object
invariant-loop-object l =
    l.out.items ++ objects_bytes l.bases l.variables l.base (drop l.object-index l.objects)
    ≡ l.initial.out.items ++ objects_bytes l.bases l.variables l.initial.base l.objects
