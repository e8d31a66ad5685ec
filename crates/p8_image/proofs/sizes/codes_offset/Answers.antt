use Rattle.std.proofs.Common.{◌∙◌, ap}
use Rattle.p8_image.specs.Keeping.{kept}
use Rattle.p8_image.proofs.Keeping.{kept_sum, kept_longs}
use Rattle.p8_image.proofs.sizes.codes_offset.Goals as goal

pub returns : goal.returns
returns c =
    c.add.ensures
    ∙ kept_sum c.dat_offset.result c.from.result _ _ c.dat_offset.ensures
    (c.from.ensures ∙ c.whole_longs-dat.ensures ∙ kept_longs c.keep.result _ (c.keep.ensures.value ∙ ap kept c.len.ensures))
