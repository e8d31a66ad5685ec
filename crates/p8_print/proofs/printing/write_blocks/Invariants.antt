use Rattle.std.proofs.Common.{◌≡◌, ◌++◌, map, take}
use Rattle.p8_tree.specs.Views.{block_of}
use Rattle.p8_print.specs.Spelled.{text_of_lines}
use Rattle.p8_print.specs.Layout.{lines_of}
use Rattle.p8_print.proofs.printing.write_blocks.Given as goal

abbrev pub invariant-loop-block : goal.invariant-loop-block
invariant-loop-block l = l.script ≡ l.initial.script ++ text_of_lines (lines_of (map block_of (take l.block-index l.blocks)))
