use Rattle.std.proofs.Common.{◌≡◌, map, take}
use Rattle.p8_tree.specs.Views.{block_of}
use Rattle.p8_constants.specs.Rows.{rows_from, rows_of}
use Rattle.p8_constants.proofs.rows.Rows.of_file.Given as goal

abbrev pub invariant-loop-block : goal.invariant-loop-block
invariant-loop-block l = rows_from l.rows ≡ rows_of (map block_of (take l.block-index l.block-items))
