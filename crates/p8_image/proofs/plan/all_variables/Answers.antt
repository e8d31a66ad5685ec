use Rattle.std.proofs.Common.{◌∙◌, ap, List, ℕ, slice_index}
use Rattle.p8_image.specs.Keeping.{kept}
use Rattle.p8_image.specs.Layout.{total}
use Rattle.p8_image.proofs.Keeping.{kept_sum}
use Rattle.p8_image.proofs.plan.all_variables.Goals as goal

pub returns : goal.returns
returns c =
    c.add.ensures
    ∙ kept_sum c.own_variables.result c.from.result _ _ c.own_variables.ensures
    (c.from.ensures ∙ c.inner_variables-inner.ensures ∙ ap (λ (instances : List ℕ). kept (total (slice_index c.args.sizes.now) instances)) c.as_slice.ensures)
