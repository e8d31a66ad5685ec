use Rattle.std.proofs.Common.{List, ℕ, ◌∙◌, slice_index, ap}
use Rattle.p8_image.proofs.Placing.{end_is}
use Rattle.p8_image.proofs.project_image.frame_end.Goals as goal

pub returns : goal.returns
returns c =
    c.min.ensures
    ∙ end_is c.args.objects.now c.variables_base.result c.from.result c.add-frame.result c.from-2.result c.add-end.result c.first_frame_size.result
    c.variables_base.ensures
    (c.from.ensures ∙ c.number_at.ensures ∙ ap (λ (sizes : List ℕ). slice_index sizes 0) (c.deref.ensures.value ∙ c.in_ok-sizes.ensures))
    c.add-frame.ensures c.from-2.ensures c.add-end.ensures c.first_frame_size.ensures
