use Rattle.std.proofs.Common.{◌≤◌, length, drop}
use Rattle.p8_fold.specs.ConstantEntries.{setting_of}
use Rattle.p8_names.proofs.Putting.{Behind}
use Rattle.p8_names.proofs.outside.put_constants.Given as goal

abbrev pub invariant-loop-at : goal.invariant-loop-at
invariant-loop-at l = (l.at ≤ length l.constants) × Behind (setting_of l.initial.consts) (setting_of l.consts) l.owner (drop l.at l.constants)
