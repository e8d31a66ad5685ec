use Rattle.std.proofs.Common.{◌≡◌, take}
use Rattle.p8_names.proofs.copies.methods_of.Given as goal

abbrev pub invariant-loop-method : goal.invariant-loop-method
invariant-loop-method l = l.copies ≡ take l.method-index l.methods
