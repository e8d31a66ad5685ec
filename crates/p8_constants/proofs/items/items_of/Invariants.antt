use Rattle.std.proofs.Common.{◌≡◌, map, take}
use Rattle.p8_tree.specs.Views.{block_of}
use Rattle.p8_constants.specs.FileItems.{items}
use Rattle.p8_constants.specs.Standing.{item_of}
use Rattle.p8_constants.proofs.items.items_of.Given as goal

abbrev pub invariant-loop-block : goal.invariant-loop-block
invariant-loop-block l = map item_of l.items.items ≡ items (map block_of (take l.block-index l.block-items))
