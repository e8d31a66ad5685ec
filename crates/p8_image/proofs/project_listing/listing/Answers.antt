use Rattle.p8_image.proofs.Cutting.{said-names, said-objects}
use Rattle.p8_image.proofs.project_listing.listing.Goals as goal
use Rattle.p8_image.proofs.project_listing.listing.Goals.{in_default, in-len1-up+in_default-names}

pub returns : goal.returns
returns c = elim c.if-objects-lt1.branch [
  | in_default w ↦ said-objects c.loop-objects.out.items _ c.loop-objects.base c.loop-objects.names.now c.loop-objects.objects.now w.in_default.len_below c.loop-objects.invariant
  | in-len1-up+in_default-names w ↦ said-names c.loop-objects.out.items _ c.loop-objects.base c.loop-objects.names.now c.loop-objects.objects.now w.in_default-names.len_below c.loop-objects.invariant
]
