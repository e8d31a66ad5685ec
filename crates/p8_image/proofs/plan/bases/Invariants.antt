use Rattle.std.proofs.Common.{◌≡◌, ◌++◌, drop, map}
use Rattle.p8_image.specs.Keeping.{kept}
use Rattle.p8_image.specs.Layout.{places_from, size_of}
use Rattle.p8_image.proofs.plan.bases.Given as goal

abbrev pub invariant-loop-object : goal.invariant-loop-object
invariant-loop-object l =
    (l.bases.items ++ map kept (places_from size_of l.base (drop l.object-index l.objects)) ≡ map kept (places_from size_of 16 l.objects))
    × (kept l.base ≡ l.base)
