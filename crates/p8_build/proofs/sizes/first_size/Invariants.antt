use Rattle.std.proofs.Common.{map}
use Rattle.p8_tree.specs.Views.{method_of}
use Rattle.p8_build.specs.Files.{names_with}
use Rattle.p8_build.proofs.Sized.{NoneBefore}
use Rattle.p8_build.proofs.sizes.first_size.Given as goal

abbrev pub invariant-loop-index : goal.invariant-loop-index
invariant-loop-index l = NoneBefore (names_with l.kinds l.tables) (map (λ m. method_of m.now) l.methods) l.place l.index
