use Rattle.std.proofs.Common.{◌≡◌, ◌++◌, map, take}
use Rattle.p8_tree.specs.Views.{declared_of}
use Rattle.p8_constants.specs.FileItems.{variable}
use Rattle.p8_constants.specs.Standing.{item_of}
use Rattle.p8_constants.proofs.items.put_variables.Given as goal

abbrev pub invariant-loop-x : goal.invariant-loop-x
invariant-loop-x l = map item_of l.items.items ≡ map item_of l.initial.items.items ++ map variable (map declared_of (take l.x-index l.x-items))
