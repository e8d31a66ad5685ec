use Rattle.std.proofs.Common.{◌≡◌, take}
use Rattle.p8_tree.specs.Views.{trees_of, items_of}
use Rattle.p8_meaning.specs.Folding.{trees_with, items_with}
use Rattle.p8_meaning.specs.Known.{number_by}
use Rattle.p8_meaning.specs.Copies.{constants_of}
use Rattle.p8_meaning.proofs.folder.Folder.+expressions.Given as goal

abbrev pub invariant-expressions-loop-tree : goal.invariant-expressions-loop-tree
invariant-expressions-loop-tree l = trees_of l.copies.items ≡ trees_with (number_by l.numbers (constants_of l.self)) (trees_of (take l.tree-index l.trees))

abbrev pub invariant-items-loop-item : goal.invariant-items-loop-item
invariant-items-loop-item l = items_of l.copies.items ≡ items_with (number_by l.numbers (constants_of l.self)) (items_of (take l.item-index l.items))
