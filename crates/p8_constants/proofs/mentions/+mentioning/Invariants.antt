use Rattle.std.proofs.Common.{◌≡◌, ◌++◌, take}
use Rattle.p8_tree.specs.Views.{trees_of, items_of}
use Rattle.p8_constants.specs.Mentions.{trees_mentioned, items_mentioned}
use Rattle.p8_constants.proofs.mentions.+mentioning.Given as goal

abbrev pub invariant-in_trees-loop-tree : goal.invariant-in_trees-loop-tree
invariant-in_trees-loop-tree l = l.names ≡ l.initial.names ++ trees_mentioned (trees_of (take l.tree-index l.trees))

abbrev pub invariant-in_items-loop-item : goal.invariant-in_items-loop-item
invariant-in_items-loop-item l = l.names ≡ l.initial.names ++ items_mentioned (items_of (take l.item-index l.items))
