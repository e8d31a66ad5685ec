use Rattle.std.proofs.Common.{◌≡◌, length}
use Rattle.p8_opt.specs.Steps.{AreAllShort}
use Rattle.p8_opt.proofs.objects.codes_of_all.Given as goal

abbrev pub invariant-loop-index : goal.invariant-loop-index
invariant-loop-index l = (length l.codes ≡ l.index) × AreAllShort l.accepted l.codes
