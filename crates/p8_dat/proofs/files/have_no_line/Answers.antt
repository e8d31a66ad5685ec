use Rattle.std.proofs.Common.{refl, ◌∙◌, arith}
use Rattle.p8_dat.proofs.WholeFiles.{no_line_more}
use Rattle.p8_dat.proofs.files.have_no_line.Goals as goal

pub loop-blocks-preserved : goal.loop-blocks-preserved
loop-blocks-preserved c =
    no_line_more c.loop-blocks.blocks.now c.block-item.result _ (omega (arith, c.in-len1-up.len_at_least)) c.block-item.is refl (c.has_no_line.ensures c.if-not-has_no_line.false) ∙ c.loop-blocks.invariant
