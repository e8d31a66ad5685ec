use Rattle.std.proofs.Common.{◌≡◌, map}
use Rattle.p8_image.specs.Keeping.{kept}
use Rattle.p8_image.specs.Layout.{variables_within}
use Rattle.p8_image.proofs.plan.variables.Given as goal

abbrev pub invariant-loop-depth : goal.invariant-loop-depth
invariant-loop-depth l = l.sizes.items ≡ map kept (variables_within l._depth l.objects)
