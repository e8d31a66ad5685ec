use Rattle.std.proofs.Common.{◌≡◌, ◌++◌, length, map}
use Rattle.p8_tree.specs.Views.{method_of}
use Rattle.p8_build.specs.Coding.{parts_by}
use Rattle.p8_build.specs.Numbers.{number_by}
use Rattle.p8_build.proofs.coding.parts_of.Given as goal

abbrev pub invariant-loop-methods : goal.invariant-loop-methods
invariant-loop-methods l =
    l.parts ++ parts_by (number_by l.texts) (map (λ m. method_of m.now) l.methods) l.codes ≡ parts_by (number_by l.texts) (map (λ m. method_of m.now) l.initial.methods) l.initial.codes

abbrev pub decreases-loop-methods : goal.decreases-loop-methods
decreases-loop-methods l = length l.methods
