use Rattle.std.proofs.Common.{map}
use Rattle.p8_tree.specs.Views.{method_of}
use Rattle.p8_build.specs.Files.{names_with}
use Rattle.p8_build.proofs.OneByOne.{CodedSoFar}
use Rattle.p8_build.proofs.coding.code_of_all.Given as goal

abbrev pub invariant-loop-index : goal.invariant-loop-index
invariant-loop-index l = CodedSoFar (names_with l.kinds l.tables) (map (λ m. method_of m.now) l.methods) l.index l.coded
