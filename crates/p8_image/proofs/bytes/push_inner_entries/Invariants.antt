use Rattle.std.proofs.Common.{◌≡◌, ◌++◌, drop}
use Rattle.p8_image.specs.Layout.{inner_entries}
use Rattle.p8_image.proofs.bytes.push_inner_entries.Given as goal

abbrev pub invariant-loop-object : goal.invariant-loop-object
invariant-loop-object l =
    l.out.items ++ inner_entries l.bases l.variables l.base l.offset (drop l.object-index l.instances)
    ≡ l.initial.out.items ++ inner_entries l.bases l.variables l.base l.initial.offset l.instances
