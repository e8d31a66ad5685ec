use Rattle.std.proofs.Common.{◌≡◌}
use Rattle.p8_image.specs.Layout.{variables_within}
use Rattle.p8_map.specs.Map.{low}
use Rattle.p8_map.proofs.plan.sizes.Given as goal

abbrev pub invariant-loop-depth : goal.invariant-loop-depth
invariant-loop-depth l = l.sizes.items ≡ low (variables_within l._depth l.objects)
