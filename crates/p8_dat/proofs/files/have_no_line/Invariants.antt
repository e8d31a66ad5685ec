use Rattle.std.proofs.Common.{◌≡◌, length, map}
use Rattle.p8_tree.specs.Views.{block_of}
use Rattle.p8_dat.specs.Blocks.{dat_lines}
use Rattle.p8_dat.proofs.files.have_no_line.Given as goal

abbrev pub invariant-loop-blocks : goal.invariant-loop-blocks
invariant-loop-blocks l =
    dat_lines (map block_of l.blocks) ≡ dat_lines (map block_of l.initial.blocks)

abbrev pub decreases-loop-blocks : goal.decreases-loop-blocks
decreases-loop-blocks l = length l.blocks
