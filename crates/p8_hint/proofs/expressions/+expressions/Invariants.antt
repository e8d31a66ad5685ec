use Rattle.std.proofs.Common.{◌≡◌, ◌++◌, take}
use Rattle.p8_tree.specs.Views.{trees_of, items_of}
use Rattle.p8_hint.specs.Spots.{in_trees, in_items}
use Rattle.p8_hint.specs.SpotViews.{spots_of}
use Rattle.p8_hint.proofs.expressions.+expressions.Given as goal

abbrev pub invariant-put_trees-loop-tree : goal.invariant-put_trees-loop-tree
invariant-put_trees-loop-tree l = spots_of l.spots.items ≡ spots_of l.initial.spots.items ++ in_trees (trees_of (take l.tree-index l.trees))

abbrev pub invariant-put_items-loop-item : goal.invariant-put_items-loop-item
invariant-put_items-loop-item l = spots_of l.spots.items ≡ spots_of l.initial.spots.items ++ in_items (items_of (take l.item-index l.items))
