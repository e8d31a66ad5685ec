use Rattle.std.proofs.Common.{◌∙◌, ap, List}
use Rattle.p8_image.specs.Keeping.{kept}
use Rattle.p8_image.specs.Layout.{total, text_size}
use Rattle.p8_image.proofs.Keeping.{kept_sum, kept_longs}
use Rattle.p8_image.proofs.sizes.object_size.Goals as goal

pub returns : goal.returns
returns c =
    c.whole_longs.ensures
    ∙ kept_longs c.add.result _
    (c.add.ensures
    ∙ kept_sum c.texts_offset.result c.from.result _ _ c.texts_offset.ensures
    (c.from.ensures ∙ c.texts_size-texts.ensures ∙ ap (λ (texts : List _). kept (total text_size texts)) c.as_slice.ensures))
