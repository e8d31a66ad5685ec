use Rattle.std.proofs.Common.{◌≡◌, ◌++◌, map, take}
use Rattle.p8_tree.specs.Views.{constant_of}
use Rattle.p8_constants.specs.FileItems.{constant}
use Rattle.p8_constants.specs.Standing.{item_of}
use Rattle.p8_constants.proofs.items.put_constants.Given as goal

abbrev pub invariant-loop-x : goal.invariant-loop-x
invariant-loop-x l = map item_of l.items.items ≡ map item_of l.initial.items.items ++ map constant (map constant_of (take l.x-index l.x-items))
