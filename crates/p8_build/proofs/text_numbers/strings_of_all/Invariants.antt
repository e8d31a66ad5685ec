use Rattle.std.proofs.Common.{◌≡◌, map, take}
use Rattle.std.specs.List.{flat_map}
use Rattle.p8_tree.specs.Views.{method_of}
use Rattle.p8_build.specs.Numbers.{text_of}
use Rattle.p8_build.specs.Parts.{strings_in_method}
use Rattle.p8_build.proofs.text_numbers.strings_of_all.Given as goal

abbrev pub invariant-loop-method : goal.invariant-loop-method
invariant-loop-method l = map text_of l.all.items ≡ flat_map strings_in_method (map (λ m. method_of m.now) (take l.method-index l.methods))
