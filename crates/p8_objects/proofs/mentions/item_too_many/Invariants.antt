use Rattle.std.proofs.Common.{◌≡◌, ◌+◌, map, take, length}
use Rattle.p8_tree.specs.Views.{block_of}
use Rattle.p8_objects.specs.Sources.{mentions, most_objects}
use Rattle.p8_objects.proofs.mentions.item_too_many.Given as goal

abbrev pub invariant-loop-block : goal.invariant-loop-block
invariant-loop-block l = l.left + length (mentions (map block_of (take l.block-index l.block-items))) ≡ most_objects
