use Rattle.std.proofs.Common.{◌≡◌, take}
use Rattle.p8_tree.specs.Views.{trees_of, items_of}
use Rattle.p8_fold.specs.ConstantEntries.{setting_of}
use Rattle.p8_fold.specs.Verdicts.{first_in_trees, first_in_items}
use Rattle.p8_fold.proofs.folding.+folding.Given as goal

abbrev pub invariant-first_in_trees-loop-tree : goal.invariant-first_in_trees-loop-tree
invariant-first_in_trees-loop-tree l = l.first ≡ first_in_trees (setting_of l.consts) (trees_of (take l.tree-index l.trees))

abbrev pub invariant-first_in_items-loop-item : goal.invariant-first_in_items-loop-item
invariant-first_in_items-loop-item l = l.first ≡ first_in_items (setting_of l.consts) (items_of (take l.item-index l.items))
