use Rattle.std.proofs.Common.{◌≡◌, take}
use Rattle.p8_map.proofs.Places.{deepened}
use Rattle.p8_map.proofs.plan.one_deeper.Given as goal

abbrev pub invariant-loop-object : goal.invariant-loop-object
invariant-loop-object l = l.deeper.items ≡ deepened (take l.object-index l.objects) l.sizes
