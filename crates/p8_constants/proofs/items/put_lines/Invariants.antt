use Rattle.std.proofs.Common.{◌≡◌, ◌++◌, map, take}
use Rattle.p8_tree.specs.Views.{line_of}
use Rattle.p8_constants.specs.FileItems.{line}
use Rattle.p8_constants.specs.Standing.{item_of}
use Rattle.p8_constants.proofs.items.put_lines.Given as goal

abbrev pub invariant-loop-x : goal.invariant-loop-x
invariant-loop-x l = map item_of l.items.items ≡ map item_of l.initial.items.items ++ map line (map line_of (take l.x-index l.x-items))
