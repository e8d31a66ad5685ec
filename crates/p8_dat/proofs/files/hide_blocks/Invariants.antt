use Rattle.std.proofs.Common.{◌≡◌, length, map}
use Rattle.std.specs.List.{fold}
use Rattle.p8_tree.specs.Views.{block_of}
use Rattle.p8_fold.specs.ConstantEntries.{setting_of}
use Rattle.p8_dat.specs.Names.{hidden}
use Rattle.p8_dat.specs.Blocks.{dat_lines}
use Rattle.p8_dat.proofs.files.hide_blocks.Given as goal

abbrev pub invariant-loop-blocks : goal.invariant-loop-blocks
invariant-loop-blocks l =
    fold hidden (setting_of l.counts) (dat_lines (map block_of l.blocks)) ≡ fold hidden (setting_of l.initial.counts) (dat_lines (map block_of l.initial.blocks))

abbrev pub decreases-loop-blocks : goal.decreases-loop-blocks
decreases-loop-blocks l = length l.blocks
