use Rattle.std.proofs.Common.{◌≡◌, take}
use Rattle.p8_tree.specs.Views.{trees_of}
use Rattle.p8_fold.specs.ConstantEntries.{setting_of}
use Rattle.p8_fold.specs.Verdicts.{first_in_trees}
use Rattle.p8_kinds.proofs.expressions.first_in_constants.Given as goal

abbrev pub invariant-loop-tree : goal.invariant-loop-tree
invariant-loop-tree l = l.first ≡ first_in_trees (setting_of l.consts) (trees_of (take l.tree-index l.trees))
