use Rattle.std.proofs.Common.{◌≡◌, take}
use Rattle.p8_tree.specs.Views.{trees_of, items_of}
use Rattle.p8_build.specs.Arguments.{in_trees, in_items}
use Rattle.p8_build.specs.Searching.{search_of}
use Rattle.p8_build.proofs.calls.+calls.Given as goal

abbrev pub invariant-in_trees-loop-tree : goal.invariant-in_trees-loop-tree
invariant-in_trees-loop-tree l = l.first ≡ in_trees (search_of l.sought) (trees_of (take l.tree-index l.trees))

abbrev pub invariant-in_items-loop-item : goal.invariant-in_items-loop-item
invariant-in_items-loop-item l = l.first ≡ in_items (search_of l.sought) (items_of (take l.item-index l.items))
