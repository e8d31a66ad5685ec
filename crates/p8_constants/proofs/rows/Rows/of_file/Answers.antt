use Rattle.std.proofs.Common.{◌∙◌, ◌≤◌, length, map, ap, arith}
use Rattle.std.proofs.lemmas.List.{take_all}
use Rattle.p8_tree.specs.Views.{block_of}
use Rattle.p8_constants.specs.Rows.{rows_of}
use Rattle.p8_constants.proofs.Rowing.{blocks_more}
use Rattle.p8_constants.proofs.rows.Rows.of_file.Goals as goal

pub loop-block-preserved : goal.loop-block-preserved
loop-block-preserved c = blocks_more c.as_slice-block-items.result.now c.loop-block.block-index c.block-item.result c.loop-block.rows c.add_block.new.self c.loop-block-test.true c.block-item.is c.loop-block.invariant c.in_ok-add_block.ensures

pub returns : goal.returns
returns c =
    let all : length c.as_slice-block-items.result.now ≤ c.loop-block.block-index = omega arith in
    c.loop-block.invariant ∙ (ap (λ bs. rows_of (map block_of bs)) (take_all c.loop-block.block-index c.as_slice-block-items.result.now all) ∙ ap (λ bs. rows_of (map block_of bs)) c.as_slice-block-items.ensures)
