use Rattle.std.proofs.Common.{map, take}
use Rattle.p8_tree.specs.Views.{block_of}
use Rattle.p8_objects.specs.Sources.{mentions}
use Rattle.p8_objects.specs.Standing.{AreFinished}
use Rattle.p8_objects.specs.Mentioned.{sources_of}
use Rattle.p8_objects.proofs.mentions.first_left.Given as goal

abbrev pub invariant-loop-block : goal.invariant-loop-block
invariant-loop-block l = AreFinished (sources_of l.files) l.done (mentions (map block_of (take l.block-index l.block-items)))
