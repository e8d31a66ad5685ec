use Rattle.std.proofs.Common.{◌∙◌, ap, List}
use Rattle.p8_image.specs.Keeping.{kept}
use Rattle.p8_image.specs.Layout.{total, code_size}
use Rattle.p8_image.proofs.Keeping.{kept_sum}
use Rattle.p8_image.proofs.sizes.texts_offset.Goals as goal

pub returns : goal.returns
returns c =
    c.add.ensures
    ∙ kept_sum c.codes_offset.result c.from.result _ _ c.codes_offset.ensures
    (c.from.ensures ∙ c.codes_size-codes.ensures ∙ ap (λ (methods : List _). kept (total code_size methods)) c.as_slice.ensures)
