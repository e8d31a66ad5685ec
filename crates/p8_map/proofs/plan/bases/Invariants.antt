use Rattle.std.proofs.Common.{◌≡◌, ◌++◌, drop}
use Rattle.p8_map.specs.Map.{bases_from}
use Rattle.p8_map.proofs.plan.bases.Given as goal

abbrev pub invariant-loop-object : goal.invariant-loop-object
invariant-loop-object l = l.bases.items ++ bases_from l.base (drop l.object-index l.objects) ≡ bases_from 16 l.objects
