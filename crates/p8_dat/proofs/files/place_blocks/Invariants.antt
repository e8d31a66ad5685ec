use Rattle.std.proofs.Common.{◌≡◌, ◌++◌, length, map}
use Rattle.p8_tree.specs.Views.{block_of}
use Rattle.p8_fold.specs.ConstantEntries.{setting_of}
use Rattle.p8_dat.specs.Spots.{placed}
use Rattle.p8_dat.specs.Blocks.{dat_lines}
use Rattle.p8_dat.specs.Placing.{placed_of}
use Rattle.p8_dat.proofs.files.place_blocks.Given as goal

abbrev pub invariant-loop-blocks : goal.invariant-loop-blocks
invariant-loop-blocks l =
    map placed_of l.places.items ++ placed (setting_of l.counts) (dat_lines (map block_of l.blocks)) l.from
    ≡ map placed_of l.initial.places.items ++ placed (setting_of l.counts) (dat_lines (map block_of l.initial.blocks)) l.initial.from

abbrev pub decreases-loop-blocks : goal.decreases-loop-blocks
decreases-loop-blocks l = length l.blocks
