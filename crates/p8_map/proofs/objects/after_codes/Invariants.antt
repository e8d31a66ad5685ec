use Rattle.std.proofs.Common.{◌≡◌, drop}
use Rattle.p8_map.specs.Map.{after_codes}
use Rattle.p8_map.proofs.objects.after_codes.Given as goal

abbrev pub invariant-loop-method : goal.invariant-loop-method
invariant-loop-method l = after_codes l.place (drop l.method-index l.methods) ≡ after_codes l.initial.place l.methods
