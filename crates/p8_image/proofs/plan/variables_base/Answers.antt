use Rattle.std.proofs.Common.{◌∙◌, refl}
use Rattle.p8_image.specs.Layout.{total, size_of}
use Rattle.p8_image.specs.Keeping.{kept}
use Rattle.p8_image.proofs.Keeping.{kept_sum}
use Rattle.p8_image.proofs.plan.variables_base.Goals as goal

pub returns : goal.returns
unfolding kept
returns c = c.add.ensures ∙ kept_sum 16 c.from.result 16 (total size_of c.args.objects.now) refl (c.from.ensures ∙ c.objects_size.ensures)
