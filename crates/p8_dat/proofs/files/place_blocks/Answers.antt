use Rattle.std.proofs.Common.{refl, ◌∙◌, arith}
use Rattle.p8_fold.specs.ConstantEntries.{setting_of}
use Rattle.p8_dat.proofs.WholeFiles.{next_blocks}
use Rattle.p8_dat.proofs.files.place_blocks.Goals as goal

pub loop-blocks-preserved : goal.loop-blocks-preserved
loop-blocks-preserved c =
    next_blocks (setting_of c.args.counts.now) c.loop-blocks.blocks.now c.block-item.result c.loop-blocks.from c.in_ok-from.from c.loop-blocks.places.items c.place_block.new.places.items _ (omega (arith, c.in-len1-up.len_at_least)) c.block-item.is refl c.in_ok-from.ensures.placed c.in_ok-from.ensures.behind
    ∙ c.loop-blocks.invariant
