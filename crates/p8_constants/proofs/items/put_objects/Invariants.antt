use Rattle.std.proofs.Common.{◌≡◌, ◌++◌, map, take}
use Rattle.p8_tree.specs.Views.{child_of}
use Rattle.p8_constants.specs.FileItems.{object}
use Rattle.p8_constants.specs.Standing.{item_of}
use Rattle.p8_constants.proofs.items.put_objects.Given as goal

abbrev pub invariant-loop-x : goal.invariant-loop-x
invariant-loop-x l = map item_of l.items.items ≡ map item_of l.initial.items.items ++ map object (map child_of (take l.x-index l.x-items))
