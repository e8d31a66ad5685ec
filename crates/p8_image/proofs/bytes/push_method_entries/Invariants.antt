use Rattle.std.proofs.Common.{◌≡◌, ◌++◌, drop}
use Rattle.p8_image.specs.Layout.{method_entries}
use Rattle.p8_image.proofs.bytes.push_method_entries.Given as goal

abbrev pub invariant-loop-method : goal.invariant-loop-method
invariant-loop-method l =
    l.out.items ++ method_entries l.offset (drop l.method-index l.methods) ≡ l.initial.out.items ++ method_entries l.initial.offset l.methods
