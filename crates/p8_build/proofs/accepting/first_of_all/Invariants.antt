use Rattle.std.proofs.Common.{map}
use Rattle.p8_tree.specs.Views.{named_source_of}
use Rattle.p8_build.specs.Phases.{IsFirstBelow}
use Rattle.p8_build.proofs.accepting.first_of_all.Given as goal

abbrev pub invariant-loop-index : goal.invariant-loop-index
invariant-loop-index l = IsFirstBelow (map named_source_of l.files) l.children l.index l.first
